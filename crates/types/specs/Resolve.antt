-- The two resolvers. Words in quotation marks are rules of docs/FORMAT.md in brief.
-- Assumes nothing.
use Rattle.std.specs.Prelude.{ℕ, zero, suc, ◌-◌, Bool, true, false, cond, ◌&&◌, List, [], ◌∷◌, eqb}
use Rattle.std.proofs.Math.Option.{Option, some, none, map}
use Rattle.record.specs.declared.Record.{Record}
use Rattle.record.specs.declared.Span.{Span}
use Rattle.book.specs.Lists.{any}
use Rattle.book.specs.Faults.{is_kind}
use Rattle.book.specs.Outline.{Book, ◌!◌, is_one_of}
use Rattle.types.specs.Lowering.{resolving, done}
use Rattle.types.specs.Resolved.{ResolvedType, primitive, sub_byte, semantic, named, inline_bits}
use Rattle.types.specs.Resolved.{Names, POISON, entry, own_number, alias_of, pair_number, lookup, with_stub, with_pair}
use Rattle.types.specs.Step.{Step, Resolved, ◌>>=◌, whole, over_one, over_two, poison}
use Rattle.types.specs.Numbers.{Generic, generics}

-- a type record, its children by their record numbers: `TypeExpr` of the original
pub data TypeExpr : Type 0 where
  -- kinds 1 to 3 and 9: carried through
  plain : ResolvedType → TypeExpr
  name : ℕ → TypeExpr
  qualified : ℕ → ℕ → TypeExpr
  generic : ℕ → ℕ → TypeExpr
  one : ℕ → ℕ → ℕ → TypeExpr
  two : ℕ → ℕ → ℕ → TypeExpr

-- the type that a record is, by its kind; in an accepted book the last is kind 9
unfoldable pub type_expr : Record → TypeExpr
type_expr r =
    cond (is_kind 1 r) (plain (primitive r.sub))
    (cond (is_kind 2 r) (plain (sub_byte r.sub r.a))
    (cond (is_kind 3 r) (plain (semantic r.sub))
    (cond (is_kind 4 r) (name r.a)
    (cond (is_kind 5 r) (qualified r.a r.b)
    (cond (is_kind 6 r) (generic r.a r.b)
    (cond (is_kind 7 r) (one r.sub r.v r.a)
    (cond (is_kind 8 r) (two r.sub r.a r.b)
    (plain (inline_bits r.a)))))))))

-- what a name is found to be
pub data Found : Type 0 where
  type : ResolvedType → Found
  stub : Found
  unresolved : ℕ → Found

-- the first that is there, else the last
unfoldable pub first_of : {A : Type 0} → List (Option A) → A → A
first_of [] d = d
first_of (some x ∷ xs) d = x
first_of (none ∷ xs) d = first_of xs d

-- what is there, under a condition
abbrev pub only_if : {A : Type 0} → Bool → Option A → Option A
only_if true x = x
only_if false x = none

-- a type number as what is found
abbrev numbered : Option ℕ → Option Found
numbered k = map (λ n. type (named n)) k

-- "declared 20-22"
abbrev pub is_declared : Book → ℕ → Bool
is_declared book n = any (λ r. is_one_of (20 ∷ 21 ∷ 22 ∷ []) r && eqb r.a n) book.records

-- "25 name ambiguous between wildcard imports"
abbrev pub is_ambiguous : Book → ℕ → Bool
is_ambiguous book n = any (λ r. is_kind 25 r && eqb r.a n) book.records

-- "Named, in order: plain alias (its result copied); declared 20-22; ambiguous (poison 4,294,967,295, message 0); known
-- number; with wildcards a fresh stub; else poison, message 1."
unfoldable pub find_name : Book → ℕ → Names → Found
find_name book n s =
    first_of
    (map type (alias_of s n)
    ∷ only_if (is_declared book n) (numbered (own_number s n))
    ∷ only_if (is_ambiguous book n) (some (unresolved 0))
    ∷ numbered (own_number s n)
    ∷ only_if book.wildcards (some stub)
    ∷ [])
    (unresolved 1)

-- a name by what it is found to be
abbrev as_found : ℕ → Span → Found → Step Resolved
as_found n span (type t) s = whole t s
as_found n span stub s = whole (named s.next) (with_stub n s)
as_found n span (unresolved m) s = poison m n 0 0 span s

-- `TypeExpr::Named`
unfoldable pub resolve_name : Book → ℕ → Span → Step Resolved
resolve_name book n span s = as_found n span (find_name book n s) s

-- "Qualified: known pair; stub if the namespace name has a number; else message 2."
unfoldable pub find_qualified : ℕ → ℕ → Names → Found
find_qualified space n s =
    first_of (numbered (pair_number s space n) ∷ map (λ k. stub) (lookup s space) ∷ []) (unresolved 2)

-- a qualified name by what it is found to be; "in message 2 namespace and b name"
abbrev as_found_pair : ℕ → ℕ → Span → Found → Step Resolved
as_found_pair space n span (type t) s = whole t s
as_found_pair space n span stub s = whole (named s.next) (with_pair space n s)
as_found_pair space n span (unresolved m) s = poison m space n 0 span s

-- `TypeExpr::Qualified`
unfoldable pub resolve_qualified : ℕ → ℕ → Span → Step Resolved
resolve_qualified space n span s = as_found_pair space n span (find_qualified space n s) s

-- what the head of a generic is found to be
pub data Head : Type 0 where
  alias : Generic → Head
  no_alias no_number : Head

-- "Generic: no number gives message 4 (inside a substitution 1), no generic alias gives 3."
unfoldable pub find_head : Book → ℕ → Names → Head
find_head book n s = by_number (lookup s n)
  where
    by_alias : Option Generic → Head
    by_alias none = no_alias
    by_alias (some g) = alias g

    by_number : Option ℕ → Head
    by_number none = no_number
    by_number (some k) = by_alias (entry k (generics book))

-- "Only the first parameter is replaced": its name, and the type record that stands for it
pub record Substitution : Type 0 where
  pub parameter : ℕ
  pub argument : ℕ

-- a resolver: a type record and the span that the type has where it stands
abbrev pub Resolver : Type 0
Resolver = ℕ → Span → Step Resolved

-- a generic: its target with its first parameter replaced. "An inner generic passes its argument on unsubstituted. A
-- generic's target takes the span of the use".
abbrev as_head : (Substitution → Resolver) → ℕ → ℕ → ℕ → Span → Head → Step Resolved
as_head target unknown n argument span (alias g) s =
    target (record { parameter = g.parameter; argument = argument }) g.target span s
as_head target unknown n argument span no_alias s = poison 3 n 0 1 span s
as_head target unknown n argument span no_number s = poison unknown n 0 0 span s

-- what both resolvers do with a type record, given what they do with a child and with a generic's target, and the
-- message for an unknown head. Children "keep their own" span.
unfoldable pub resolve_by : Book → Resolver → (Substitution → Resolver) → ℕ → TypeExpr → Span → Step Resolved
resolve_by book child target unknown (plain t) span s = whole t s
resolve_by book child target unknown (name n) span s = resolve_name book n span s
resolve_by book child target unknown (qualified space n) span s = resolve_qualified space n span s
resolve_by book child target unknown (generic n argument) span s =
    as_head target unknown n argument span (find_head book n s) s
resolve_by book child target unknown (one p size a) span s =
    (child a (book ! a).span >>= over_one p size) s
resolve_by book child target unknown (two p a b) span s =
    (child a (book ! a).span >>= λ l. child b (book ! b).span >>= over_two p l) s

-- the record is the parameter, by its name
abbrev pub is_parameter : Substitution → TypeExpr → Bool
is_parameter sub (name n) = eqb n sub.parameter
is_parameter sub (plain t) = false
is_parameter sub (qualified space n) = false
is_parameter sub (generic n a) = false
is_parameter sub (one p v a) = false
is_parameter sub (two p a b) = false

-- "resolving deeper than 64": the step that no run takes. What stands behind it is never come to.
abbrev pub beyond : Step Resolved
beyond s = resolving 65 (done (record { root = 0; type = named POISON }, s))

-- `left`: how many steps are left, of 64. "the start is 1; a step to a child, a generic's target or a substituted
-- argument adds 1".
unfoldable mutual
  pub resolve_type_expr : ℕ → Book → Resolver
  resolve_type_expr zero book n span s = beyond s
  resolve_type_expr (suc left) book n span s =
      resolving (64 - left)
      (resolve_by
      book
      (λ a z t. resolve_type_expr left book a z t)
      (λ sub a z t. resolve_type_expr_with_substitution left book sub a z t)
      4
      (type_expr (book ! n))
      span
      s)

  -- the same inside a generic's target: "an argument as a whole [takes the span] of the parameter it replaces"
  pub resolve_type_expr_with_substitution : ℕ → Book → Substitution → Resolver
  resolve_type_expr_with_substitution zero book sub n span s = beyond s
  resolve_type_expr_with_substitution (suc left) book sub n span s =
      resolving (64 - left)
      (elim (is_parameter sub (type_expr (book ! n))) [
        | true ↦ resolve_type_expr left book sub.argument span s
        | false ↦
            resolve_by
            book
            (λ a z t. resolve_type_expr_with_substitution left book sub a z t)
            (λ new a z t. resolve_type_expr_with_substitution left book new a z t)
            1
            (type_expr (book ! n))
            span
            s
      ])

-- the type of a declaration or an item
unfoldable pub resolve_type : Book → ℕ → Step Resolved
resolve_type book n = resolve_type_expr 64 book n (book ! n).span
