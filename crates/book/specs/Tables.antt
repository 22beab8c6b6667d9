-- What the working tables of the reading hold when record n is looked at.
-- Assumes nothing.
use Rattle.std.specs.Prelude.{ℕ, zero, suc, ◌+◌, ◌^◌, ◌≤◌, ◌<◌, Bool, true, false, cond, not, ◌&&◌, ◌||◌, List, [], ◌∷◌, ◌++◌, ◌≡◌, ltb, eqb, length, take, get_or, bit_and, if◌then◌else◌, Option, Some, None, Result, Ok, Err}
use Rattle.std.proofs.Math.Option as defined
use Rattle.std.proofs.Math.Option.{some, none}
use Rattle.record.specs.declared.Record.{Record}
use Rattle.record.specs.declared.kind.Kind.{Kind}
use Rattle.record.specs.declared.kind.Kind.TheVariants.{Message, Union, Newtype, Alias, Constant, Ambiguous, Tombstone, Variant}
use Rattle.record.specs.Kind.{code_of, is_declaration_kind}
use Rattle.record.specs.declared.refusal.Cause as code_cause
use Rattle.record.specs.declared.refusal.Cause.TheVariants as code
use Rattle.record.specs.declared.refusal.Refusal as answered
use Rattle.book.specs.declared.shape.Group.{Group}
use Rattle.book.specs.declared.children.Tree.{Tree}
use Rattle.book.specs.declared.follow.Standing as code_standing
use Rattle.book.specs.declared.follow.TombstoneOf.{TombstoneOf}
use Rattle.book.specs.declared.follow.TombstoneOf.TheVariants as tombstones
use Rattle.book.specs.declared.names.NameSet.{NameSet}
use Rattle.book.specs.declared.names.NameSet.TheVariants as sets
use Rattle.book.specs.declared.scan.Scan.{Scan}
use Rattle.book.specs.Lists.{any, find}
use Rattle.book.specs.Shape.{Child, is_of}
use Rattle.book.specs.Rows.{group_from, is_outside_group}
use Rattle.book.specs.Follow.{is_one_of, follow_of}
use Rattle.book.specs.Blocks.{record_count, records}
use Rattle.book.specs.Faults.{record_of, used_before, is_wrong, used_twice, before, is_kind, is_declaration, is_union_tombstone, variant_open}
use Rattle.book.specs.Faults.{name_set, name_fault, deeper_than}
use Rattle.book.specs.Refusal.{at_record, holds}
use Rattle.book.specs.Answer.{outcome}

-- n is a record of the book, which has at most 1,344
pub record Here (book : List ℕ) (n : ℕ) : Type 0 where
  pub within : n < record_count book
  pub few : record_count book ≤ 1344

-- the number of records of the book, at most 1,344
pub record Counted (book : List ℕ) (count : ℕ) : Type 0 where
  pub all : count ≡ record_count book
  pub few : count ≤ 1344

-- the tree at record k: its group, and its levels
pub record IsTree (rs : List Record) (k : ℕ) (t : Tree) : Type 0 where
  pub of_group : is_of (group_from t.group) (record_of rs k) ≡ true
  pub levels_are : (d : ℕ) → deeper_than d rs k ≡ ltb d t.levels

-- none stands where the record is a child already
abbrev pub TreeAt : List Record → ℕ → Bool → Option Tree → Type 0
TreeAt rs k true o = o ≡ None
TreeAt rs k false None = ⊥
TreeAt rs k false (Some t) = IsTree rs k t

-- trees: those at the records before n that no record before n has as a child, nor n in `cs`
pub record Trees (rs : List Record) (n : ℕ) (cs : List Child) (trees : List (Option Tree)) : Type 0 where
  pub long : length trees ≡ 1344
  pub trees_are : (k : ℕ) → k < n → TreeAt rs k (used_before rs n k || any (λ c. eqb c.number k) cs) (get_or trees k None)
  -- no record before n has n, or one behind it, as a child
  pub later : (k : ℕ) → n ≤ k → used_before rs n k ≡ false

-- a child in `new` comes again: among those in `cs`, or behind itself
abbrev pub used_again : List Child → List Child → Bool
used_again cs new = any (λ c. any (λ x. eqb x.number c.number) cs) new || used_twice new

-- one of the children `new` of n, which stand behind those in `cs`, is wrong
abbrev pub wrong : List Record → ℕ → List Child → List Child → Bool
wrong rs n cs new = any (is_wrong rs n) new || used_again cs new

-- the children `new` of n are right: which trees are left, and how many levels the deepest at them has
pub record TakenAll (rs : List Record) (n : ℕ) (cs new : List Child) (levels : ℕ) (trees : List (Option Tree)) : Type 0 where
  pub right : wrong rs n cs new ≡ false
  pub left : Trees rs n (cs ++ new) trees
  pub deepest : (d : ℕ) → any (λ c. deeper_than d rs c.number) new ≡ ltb d levels

-- the children `new` of n are looked at
abbrev pub Taken : List Record → ℕ → List Child → List Child → Result ℕ answered.Refusal → List (Option Tree) → Type 0
Taken rs n cs new (Ok levels) trees = TakenAll rs n cs new levels trees
Taken rs n cs new (Err e) trees = (wrong rs n cs new ≡ true) × (e ≡ record { cause = code.Child; place = n })

-- a cause at a place, unless something holds
abbrev pub unless : Bool → code_cause.Cause → ℕ → Result Unit answered.Refusal
unless true c n = Ok tt
unless false c n = Err (record { cause = c; place = n })

-- the tree at record n, over children of so many levels
abbrev pub too_deep : Group → ℕ → Bool
too_deep g levels = cond (is_outside_group g) (ltb 64 levels) (ltb 63 levels)

abbrev pub grown_by : Bool → ℕ → Group → ℕ → Result Tree answered.Refusal
grown_by true n g levels = Err (record { cause = code.Depth; place = n })
grown_by false n g levels = Ok (record { group = g; levels = levels + 1 })

abbrev pub grown : ℕ → Group → ℕ → Result Tree answered.Refusal
grown n g levels = grown_by (too_deep g levels) n g levels

-- the bit of a set of names, 0 where there is none
abbrev pub set_bit : ℕ → ℕ
set_bit zero = 0
set_bit (suc s) = 2 ^ s

-- a byte has the bit of a set of names, counted from 0
abbrev pub has_bit : ℕ → ℕ → Bool
has_bit s x = not (eqb (bit_and x (2 ^ s)) 0)

-- the set that records of a kind declare in
abbrev pub set_of : Kind → Option NameSet
set_of Message = Some sets.Types
set_of Union = Some sets.Types
set_of Newtype = Some sets.Types
set_of Alias = Some sets.Types
set_of Constant = Some sets.Constants
set_of Ambiguous = Some sets.Ambiguous
set_of _ = None

-- its bit
abbrev pub bit_of : NameSet → ℕ
bit_of sets.Types = 1
bit_of sets.Constants = 2
bit_of sets.Ambiguous = 4

-- names: those declared by the records before n, each with a bit for each of the three sets
pub record Names (rs : List Record) (n : ℕ) (names : List ℕ) : Type 0 where
  pub long : length names ≡ 4096
  pub marks :
      (s k : ℕ) → s < 3 → k < 4096 →
      has_bit s (get_or names k 0) ≡ any (λ x. eqb (name_set x) (suc s) && eqb x.a k) (take n rs)

-- the kind of a record, 0 where there is none
abbrev pub kind_or_0 : defined.Option Record → ℕ
kind_or_0 none = 0
kind_or_0 (some r) = r.kind

-- what the follow rule knows, by the numbers of kinds
pub record Standing : Type 0 where
  pub before : ℕ
  pub declaration : ℕ
  pub variant : Bool

-- the number of a kind, 0 for none
abbrev pub kind_number : Option Kind → ℕ
kind_number None = 0
kind_number (Some k) = code_of k

abbrev pub standing_of : code_standing.Standing → Standing
standing_of p = record { before = kind_number p.before; declaration = kind_number p.declaration; variant = p.variant }

-- fields go under a message, and under a union with an open variant
abbrev pub takes_fields : Option Kind → Bool → Bool
takes_fields (Some Message) variant = true
takes_fields (Some Union) variant = variant
takes_fields _ variant = false

abbrev pub is_union : Option Kind → Bool
is_union (Some Union) = true
is_union _ = false

-- whose a tombstone is, by its sub
abbrev pub tombstone_of : ℕ → TombstoneOf
tombstone_of sub = if eqb sub 0 then tombstones.Fields else (if eqb sub 1 then tombstones.Union else tombstones.Neither)

-- the latest declaration behind a record of a kind, by its number
abbrev pub declaration_behind : Kind → ℕ → ℕ
declaration_behind kind d = if is_declaration_kind kind then code_of kind else d

-- whether a variant is open behind a record of a kind and with a sub, and was before it
abbrev pub variant_behind : Kind → ℕ → Bool → Bool
variant_behind Variant sub variant = true
variant_behind Tombstone sub variant = not (eqb sub 1) && variant
variant_behind kind sub variant = not (is_declaration_kind kind) && variant

-- standing: of the records before that the follow rule looks at, latest first
pub record Placed (bs : List Record) (p : Standing) : Type 0 where
  pub before_is : p.before ≡ kind_or_0 (find (λ r. true) bs)
  pub declaration_is : p.declaration ≡ kind_or_0 (find is_declaration bs)
  pub variant_is : p.variant ≡ variant_open bs
  -- by its kind, a declaration may stand behind the record before, and under a message or a union a field
  pub known : follow_of p.before 20 ≡ true
  pub fields : is_one_of (20 ∷ 21 ∷ []) p.declaration ≡ true → follow_of p.before 31 ≡ true

-- the records that the follow rule looks at behind r
abbrev pub following : Record → List Record → List Record
following r bs = cond (ltb 16 r.kind) (r ∷ bs) bs

-- a field, or a tombstone that is not the union's own, needs a message, or a union with an open variant; a variant, or
-- a tombstone of the union itself, needs a union
abbrev pub has_room : Record → Standing → Bool
has_room r p =
    (not (is_kind 31 r || is_kind 32 r && eqb r.sub 0) || (eqb p.declaration 20 || eqb p.declaration 21 && p.variant))
    && (not (is_union_tombstone r || is_kind 33 r) || eqb p.declaration 21)

-- whether a variant is open behind r, and was before it
abbrev pub open_behind : Record → Bool → Bool
open_behind r variant = cond (is_declaration r || is_kind 33 r || is_union_tombstone r) (is_kind 33 r) variant

-- the name that record n declares is marked, and was not before
pub record Declared (rs : List Record) (n : ℕ) (result : Result Unit answered.Refusal) (names : List ℕ) : Type 0 where
  pub answer_is : result ≡ unless (not (name_fault rs n)) code.Name n
  pub names_are : Names rs (suc n) names

-- what is known of the records before n
pub record Known (book : List ℕ) (n : ℕ) (s : Scan) : Type 0 where
  pub trees_are : Trees (records book) n [] s.trees
  pub names_are : Names (records book) n s.names
  pub placed : Placed (before (records book) n) (standing_of s.standing)

-- record n of the book, which is r, is about to be looked at
pub record Ready (book : List ℕ) (n : ℕ) (r : Record) (s : Scan) : Type 0 where
  pub here : Here book n
  pub is : r ≡ record_of (records book) n
  pub known : Known book n s

-- record n was looked at: the first fault that it has, and what is known if it has none
pub record Looked (book : List ℕ) (n : ℕ) (result : Result Unit answered.Refusal) (s : Scan) : Type 0 where
  pub answer_is : result ≡ outcome (find (holds book) (at_record n))
  pub known : result ≡ Ok tt → Known book (suc n) s
