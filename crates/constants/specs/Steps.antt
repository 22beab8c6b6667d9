-- The steps that the code takes to order and evaluate constants, over plain lists. No reader has to believe them:
-- proofs/Steps.antt and its neighbours say what they come to.
-- Assumes nothing.
use Rattle.std.specs.Prelude.{ℕ, zero, suc, ◌+◌, ◌-◌, Bool, true, false, cond, not, ◌&&◌, ◌||◌, eqb, ltb, List, [], ◌∷◌, length, get_or, set, slice_get, replicate, find, Option, Some, None, Result, Ok, ℤ}
use Rattle.std.specs.List.{range_with_len}
use Rattle.book.specs.Lists.{any}
use Rattle.record.specs.declared.Record.{Record}
use Rattle.record.specs.declared.kind.Kind.{Kind}
use Rattle.record.specs.declared.kind.Kind.TheVariants.{Constant}
use Rattle.record.specs.declared.kind.UnknownKind.{UnknownKind}
use Rattle.record.specs.Kind.{kind_from}
use Rattle.book.specs.Outline.{Book, ◌!◌}
use Rattle.constants.specs.Expr.{Expr, literal, reference, operation, refs}
use Rattle.constants.specs.Eval.{eval_const_expr}
use Rattle.constants.specs.Given.{table_in, answered, pushed, stored}
use Rattle.constants.specs.declared.reached.Settled.{Settled}
use Rattle.constants.specs.Tree.{tree}
use Rattle.constants.specs.declared.works.Named.{Named}
use Rattle.constants.specs.declared.works.Waits.{Waits}
use Rattle.constants.specs.declared.works.Waits.TheVariants.{NotAdmitted, Names, Name, Done}
use Rattle.constants.specs.declared.works.Turn.{Turn}
use Rattle.constants.specs.declared.works.Works.{Works}

-- what the arrays hold
pub record State : Type 0 where
  pub undone : List Bool
  pub seen : List ℕ
  pub turns : List Turn
  pub named : List Named
  pub end : ℕ

abbrev pub state_of : {N R : ℕ} → Works N R → State
state_of w = record { undone = w.undone; seen = w.seen; turns = w.turns.items; named = w.named; end = w.end }

abbrev pub turn : ℕ → Waits → Turn
turn place waits = record { place = place; waits = waits }

abbrev pub named_by : ℕ → ℕ → Named
named_by by name = record { name = name; by = by }

-- no constant is record 0
abbrev pub nobody : Named
nobody = named_by 0 0

abbrev pub named_at : ℕ → State → Named
named_at j s = get_or s.named j nobody

-- at first
abbrev pub started : ℕ → ℕ → State
started n r = record { undone = replicate n false; seen = replicate n 0; turns = []; named = replicate r nobody; end = 0 }

abbrev pub turn_at : ℕ → State → Option Turn
turn_at i s = slice_get s.turns i

abbrev pub put_turn : ℕ → Turn → State → State
put_turn i turn s = record s { turns = set s.turns i turn }

-- the constant at record n is listed, of at most so many
abbrev pub opened_of : ℕ → ℕ → Record → Result Kind UnknownKind → State → State
opened_of most n r (Ok Constant) s =
    record s { undone = set s.undone r.a true; turns = pushed most s.turns (turn n NotAdmitted) }
opened_of most n r kind s = s

unfoldable pub opened : ℕ → Book → ℕ → State → State
opened most book n s = opened_of most n (book ! n) (kind_from (book ! n).kind) s

unfoldable pub opened_all : ℕ → Book → List ℕ → State → State
opened_all most book [] s = s
opened_all most book (n ∷ ns) s = opened_all most book ns (opened most book n s)

-- names are looked at
pub record Looked : Type 0 where
  pub again : Bool
  pub state : State

abbrev pub seen_so : Bool → State → Looked
seen_so again s = record { again = again; state = s }

unfoldable pub see : ℕ → ℕ → State → Looked
see stamp name s =
    cond (get_or s.undone name false)
    (seen_so (eqb (get_or s.seen name 0) stamp) (record s { seen = set s.seen name stamp }))
    (seen_so false s)

-- the undone names of an expression are looked at, those on the right first
unfoldable pub looked : ℕ → Expr → State → Looked
looked stamp (literal l v) s = seen_so false s
looked stamp (reference name) s = see stamp name s
looked stamp (operation o l r) s =
    let right : Looked = looked stamp r s in
    let left : Looked = looked stamp l right.state in
    seen_so (left.again || right.again) left.state

-- what the expression of a constant names is listed, as far as there is room
unfoldable pub named_then : ℕ → ℕ → State → State
named_then by name s =
    cond (ltb s.end (length s.named) && ltb s.end 65535) (record s { named = set s.named s.end (named_by by name); end = s.end + 1 }) s

unfoldable pub listed : ℕ → Expr → State → State
listed by (literal l v) s = s
listed by (reference name) s = named_then by name s
listed by (operation o l r) s = listed by r (listed by l s)

-- an expression names an undone name
unfoldable pub names_undone : List Bool → Expr → Bool
names_undone undone e = any (λ n. get_or undone n false) (refs e)

-- constant i waits for what it names, unless it names an undone name twice
abbrev pub hinted : ℕ → ℕ → ℕ → State → State
hinted i place next s = put_turn i (turn place (Names next)) s

abbrev pub admitted_by : ℕ → ℕ → Expr → Looked → State
admitted_by i place e x = cond x.again x.state (hinted i place x.state.end (listed place e x.state))

abbrev pub admitted_at : Book → ℕ → Option Turn → State → State
admitted_at book i None s = s
admitted_at book i (Some t) s =
    let e : Expr = tree book (book ! t.place).c in
    admitted_by i t.place e (looked t.place e s)

unfoldable pub admitted : Book → ℕ → State → State
admitted book i s = admitted_at book i (turn_at i s) s

unfoldable pub admitted_from : Book → ℕ → ℕ → State → State
admitted_from book zero i s = s
admitted_from book (suc left) i s = admitted_from book left (i + 1) (admitted book i s)

-- whether constant i is ready is told
pub record Told : Type 0 where
  pub ready : Bool
  pub state : State

abbrev pub told : Bool → State → Told
told ready s = record { ready = ready; state = s }

-- the first place from `next` on where an undone name is listed, or a name that another constant names
abbrev pub stops : ℕ → State → ℕ → Bool
stops place s j = not (eqb (named_at j s).by place) || get_or s.undone (named_at j s).name false

abbrev pub next_stop : ℕ → ℕ → State → Option ℕ
next_stop place next s = find (stops place s) (range_with_len next (s.end - next))

-- it counts if it is the constant's own
abbrev pub own_stop : ℕ → State → Option ℕ → Option ℕ
own_stop place s None = None
own_stop place s (Some j) = cond (eqb (named_at j s).by place) (Some j) None

abbrev pub next_undone : ℕ → ℕ → State → Option ℕ
next_undone place next s = own_stop place s (next_stop place next s)

-- whether a constant waits still, for what never comes or for a name that is undone
abbrev pub still_waits : Option Turn → State → Bool
still_waits None s = false
still_waits (Some t) s = elim t.waits [ NotAdmitted ↦ true | Names h ↦ false | Name n h ↦ get_or s.undone n false | Done ↦ true ]

-- from which place on the names are listed that an admitted constant which is not done may wait for
abbrev pub next_of : Waits → Option ℕ
next_of NotAdmitted = None
next_of Done = None
next_of (Names next) = Some next
next_of (Name n next) = Some next

abbrev pub told_by_next : Book → ℕ → ℕ → Option ℕ → State → Told
told_by_next book i place (Some at) s = told false (put_turn i (turn place (Name (named_at at s).name at)) s)
told_by_next book i place None s = told (not (names_undone s.undone (tree book (book ! place).c))) s

abbrev pub told_by : Book → ℕ → ℕ → Option ℕ → State → Told
told_by book i place None s = told false s
told_by book i place (Some next) s = told_by_next book i place (next_undone place next s) s

abbrev pub told_at : Book → ℕ → Option Turn → State → Told
told_at book i None s = told false s
told_at book i (Some t) s = told_by book i t.place (next_of t.waits) s

unfoldable pub looked_on : Book → ℕ → State → Told
looked_on book i s = told_at book i (turn_at i s) s

unfoldable pub looked_at : Book → ℕ → State → Told
looked_at book i s = cond (still_waits (turn_at i s) s) (told false s) (looked_on book i s)

-- the first ready constant from i on, of so many
pub record Found : Type 0 where
  pub number : Option ℕ
  pub state : State

abbrev pub found : Option ℕ → State → Found
found number s = record { number = number; state = s }

unfoldable pub ready_from : Book → ℕ → ℕ → State → Found
ready_from book zero i s = found None s
ready_from book (suc left) i s =
    let t : Told = looked_at book i s in
    cond t.ready (found (Some i) t.state) (ready_from book left (i + 1) t.state)

-- the arrays, the values of names, and the constants that are settled
pub record Run : Type 0 where
  pub works : State
  pub values : List (Option ℤ)
  pub order : List Settled

abbrev pub run : State → List (Option ℤ) → List Settled → Run
run works values order = record { works = works; values = values; order = order }

-- a constant at such a place is settled, with a name and a value
abbrev pub settled_as : ℕ → ℕ → ℕ → ℕ → Option ℤ → Run → Run
settled_as most i place name value t =
    record {
      works = put_turn i (turn place Done) (record t.works { undone = set t.works.undone name false });
      values = stored name value t.values;
      order = pushed most t.order (record { place = place; value = value });
    }

abbrev pub settled_at : ℕ → Book → ℕ → Option Turn → Run → Run
settled_at most book i None t = t
settled_at most book i (Some u) t =
    settled_as most i u.place (book ! u.place).a (answered (eval_const_expr (table_in t.values) (tree book (book ! u.place).c))) t

unfoldable pub settled : ℕ → Book → ℕ → Run → Run
settled most book i t = settled_at most book i (turn_at i t.works) t

-- the first ready constant is settled, and then the others, so many at most
abbrev pub next_low : ℕ → ℕ → ℕ
next_low i low = cond (eqb i low) (i + 1) low

abbrev pub turned : ℕ → Book → ℕ → Run → (ℕ → Run → Run) → Option ℕ → State → Run
turned most book low t rest None s = record t { works = s }
turned most book low t rest (Some i) s = rest (next_low i low) (settled most book i (record t { works = s }))

abbrev pub first_from : Book → ℕ → State → Found
first_from book low s = ready_from book (length s.turns - low) low s

unfoldable pub settled_from : ℕ → Book → ℕ → ℕ → Run → Run
settled_from most book zero low t = t
settled_from most book (suc left) low t =
    let f : Found = first_from book low t.works in
    turned most book low t (settled_from most book left) f.number f.state

-- all of it: with room for so many names and records, over the declarations of a book
abbrev pub admitted_all : Book → State → State
admitted_all book s = admitted_from book (length s.turns) 0 s

abbrev pub settled_all : ℕ → Book → Run → Run
settled_all most book t = settled_from most book (length t.works.turns) 0 t

unfoldable pub evaluated : ℕ → ℕ → Book → List ℕ → List (Option ℤ) → List Settled → Run
evaluated names most book declarations values order =
    settled_all most book (run (admitted_all book (opened_all most book declarations (started names most))) values order)
