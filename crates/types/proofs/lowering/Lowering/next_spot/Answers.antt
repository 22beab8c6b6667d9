use Rattle.std.proofs.Common.{◌≡◌, ◌<◌, rules}
use Rattle.types.specs.declared.lowering.TypeExpr.TheVariants.{Name, Generic}
use Rattle.types.specs.declared.lowering.Head.TheVariants.{Alias}
use Rattle.types.specs.Code.{state_of, type_at, find_head}
use Rattle.types.proofs.WalkSteps.{to_argument, to_target}
use Rattle.types.proofs.lowering.Lowering.next_spot.Goals as goal

pub returns-in-Some-clause-same : goal.returns-in-Some-clause-same
returns-in-Some-clause-same g c span =
    let more : 0 < c.args.at.left = search rules in
    let named : type_at (state_of g.row.N g.row.R c.args.self.now).book c.args.at.n ≡ Name c.in-Name.name = search rules in
    to_argument c.args.at c.in-Some.inside c.in-Name.name span (state_of g.row.N g.row.R c.args.self.now) more c.in-Some.is named c.if-name-inside.true

pub returns-in-Alias-clause-same : goal.returns-in-Alias-clause-same
returns-in-Alias-clause-same g c span =
    let more : 0 < c.args.at.left = search rules in
    let named : type_at (state_of g.row.N g.row.R c.args.self.now).book c.args.at.n ≡ Generic c.in-Generic.name c.in-Generic.passed = search rules in
    let head : find_head c.in-Generic.name (state_of g.row.N g.row.R c.args.self.now) ≡ Alias c.in-Alias.generic = search rules in
    to_target c.args.at c.in-Generic.name c.in-Generic.passed c.in-Alias.generic span (state_of g.row.N g.row.R c.args.self.now) more named head
