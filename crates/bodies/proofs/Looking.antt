-- What a record is, as the code looks at it by its kind and the definitions by its number.
-- Assumes nothing.
use Rattle.std.proofs.Common.{◌≡◌, ℕ, Bool, true, false, ◌&&◌, List, [], ◌∷◌, leb, eqb}
use Rattle.std.proofs.Common.{refl, ap, arith, Result, Option, None}
use Rattle.std.proofs.lemmas.Bool.Decides.{nat_tests}
use Rattle.record.specs.declared.Record.{Record}
use Rattle.record.specs.declared.kind.Kind.{Kind}
use Rattle.record.specs.declared.kind.Kind.TheVariants.{Message, Union, Newtype, Alias, Constant, Ambiguous}
use Rattle.record.specs.declared.kind.Kind.TheVariants.{TypeParameter, Field, Tombstone, Variant, Annotation}
use Rattle.record.specs.declared.kind.Kind.TheVariants.{Argument, TombstoneArgument}
use Rattle.record.specs.declared.kind.UnknownKind.{UnknownKind}
use Rattle.record.specs.Kind.{kind_from, code_of}
use Rattle.record.proofs.Codes.{by_kind, unknown_eqb}
use Rattle.book.specs.Lists.{All, any}
use Rattle.types.specs.Code.{State, Outcome, done}
use Rattle.bodies.specs.declared.encoding.Annotations.{Annotations}
use Rattle.bodies.specs.Code.{seen_by, string_by, item_by}
use Rattle.bodies.specs.Code.{decl_by}

-- the number is one of some
abbrev pub one_of : List ℕ → ℕ → Bool
one_of ks n = any (λ k. eqb n k) ks

abbrev pub declared : ℕ → Bool
declared n = leb 20 n && leb n 25

-- a number that is none of some
none_of : (n : ℕ) (ks : List ℕ) → All (λ k. eqb n k ≡ false) ks → one_of ks n ≡ false
unfolding any
none_of n [] h = refl
none_of n (k ∷ ks) h = go (eqb n k) h.0 (none_of n ks h.1)
  where
    go : (b : Bool) → b ≡ false → one_of ks n ≡ false → elim b [ true ↦ true | false ↦ one_of ks n ] ≡ false
    go true e later = e
    go false e later = later

-- a note, or none
pub data Note (n : ℕ) : Type 0 where
  an_annotation : n ≡ 34 → Note n
  an_argument : n ≡ 35 → Note n
  a_parameter : n ≡ 30 → Note n
  a_reason : n ≡ 36 → Note n
  no_note :
      one_of (30 ∷ 34 ∷ 35 ∷ 36 ∷ []) n ≡ false →
      ((r : Record) (s : Annotations) (f : Annotations → Annotations) → seen_by (kind_from n) r s f ≡ s) →
      ((key : ℕ) (r : Record) (rest : Option ℕ) → string_by (kind_from n) key r rest ≡ None) →
      Note n

known_note : (k : Kind) → Note (code_of k)
unfolding any kind_from
known_note Annotation = an_annotation refl
known_note Argument = an_argument refl
known_note TypeParameter = a_parameter refl
known_note TombstoneArgument = a_reason refl
known_note k = no_note refl (λ r s f. refl) (λ key r rest. refl)

pub note_of : (n : ℕ) → Note n
note_of = by_kind Note known_note
    (λ n e is. no_note
    (none_of n (30 ∷ 34 ∷ 35 ∷ 36 ∷ []) (
      unknown_eqb n e is TypeParameter,
      (unknown_eqb n e is Annotation, (unknown_eqb n e is Argument, (unknown_eqb n e is TombstoneArgument, tt))),
    ))
    (λ r s f. ap (λ (k : Result Kind UnknownKind). seen_by k r s f) is)
    (λ key r rest. ap (λ (k : Result Kind UnknownKind). string_by k key r rest) is))

-- an item, a declaration, or neither
pub data Item (n : ℕ) : Type 0 where
  a_field : n ≡ 31 → Item n
  a_tombstone : n ≡ 32 → Item n
  a_variant : n ≡ 33 → Item n
  a_declaration :
      declared n ≡ true →
      ((delta : Bool) (m : ℕ) (ms : List ℕ) (s : State) (f : State → Outcome Unit)
      → item_by (kind_from n) delta m ms s f ≡ done tt s) →
      Item n
  neither :
      declared n ≡ false → one_of (31 ∷ 32 ∷ 33 ∷ []) n ≡ false →
      ((delta : Bool) (m : ℕ) (ms : List ℕ) (s : State) (f : State → Outcome Unit)
      → item_by (kind_from n) delta m ms s f ≡ f s) →
      Item n

known_item : (k : Kind) → Item (code_of k)
unfolding any kind_from
known_item Field = a_field refl
known_item Tombstone = a_tombstone refl
known_item Variant = a_variant refl
known_item Message = a_declaration refl (λ delta m ms s f. refl)
known_item Union = a_declaration refl (λ delta m ms s f. refl)
known_item Newtype = a_declaration refl (λ delta m ms s f. refl)
known_item Alias = a_declaration refl (λ delta m ms s f. refl)
known_item Constant = a_declaration refl (λ delta m ms s f. refl)
known_item Ambiguous = a_declaration refl (λ delta m ms s f. refl)
known_item k = neither refl refl (λ delta m ms s f. refl)

no_declaration : (n : ℕ) → eqb n 20 ≡ false → eqb n 21 ≡ false → eqb n 22 ≡ false → eqb n 23 ≡ false → eqb n 24 ≡ false
    → eqb n 25 ≡ false → declared n ≡ false
no_declaration n a b c d e f = grind (arith, nat_tests)

pub item_of : (n : ℕ) → Item n
item_of = by_kind Item known_item
    (λ n e is. neither
    (no_declaration n (unknown_eqb n e is Message) (unknown_eqb n e is Union) (unknown_eqb n e is Newtype)
    (unknown_eqb n e is Alias) (unknown_eqb n e is Constant) (unknown_eqb n e is Ambiguous))
    (none_of n (31 ∷ 32 ∷ 33 ∷ [])
    (unknown_eqb n e is Field, (unknown_eqb n e is Tombstone, (unknown_eqb n e is Variant, tt))))
    (λ delta m ms s f. ap (λ (k : Result Kind UnknownKind). item_by k delta m ms s f) is))

-- a message, a union, a newtype, or none of them
pub data Declaration (n : ℕ) : Type 0 where
  a_message : n ≡ 20 → Declaration n
  a_union : n ≡ 21 → Declaration n
  a_newtype : n ≡ 22 → Declaration n
  another :
      one_of (20 ∷ 21 ∷ 22 ∷ []) n ≡ false →
      ((m : ℕ) (ms : List ℕ) (s : State) (f : State → Outcome Unit) → decl_by (kind_from n) m ms s f ≡ f s) →
      Declaration n

known_declaration : (k : Kind) → Declaration (code_of k)
unfolding any kind_from
known_declaration Message = a_message refl
known_declaration Union = a_union refl
known_declaration Newtype = a_newtype refl
known_declaration k = another refl (λ m ms s f. refl)

pub declaration_of : (n : ℕ) → Declaration n
declaration_of = by_kind Declaration known_declaration
    (λ n e is. another
    (none_of n (20 ∷ 21 ∷ 22 ∷ [])
    (unknown_eqb n e is Message, (unknown_eqb n e is Union, (unknown_eqb n e is Newtype, tt))))
    (λ m ms s f. ap (λ (k : Result Kind UnknownKind). decl_by k m ms s f) is))
