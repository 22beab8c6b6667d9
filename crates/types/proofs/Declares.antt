-- What a record is to the registry: a message, a union or a newtype, an alias, an ambiguous name, or another record.
-- Assumes nothing.
use Rattle.std.proofs.Common.{◌≡◌, ℕ, Bool, true, false, [], ◌∷◌, refl, sym, ◌∙◌, subst, Option, Ok, Err, Result}
use Rattle.record.specs.declared.kind.Kind.{Kind}
use Rattle.record.specs.declared.kind.Kind.TheVariants as kinds
use Rattle.record.specs.declared.kind.UnknownKind.{UnknownKind}
use Rattle.record.specs.declared.Record.{Record}
use Rattle.record.specs.Kind.{code_of, kind_from}
use Rattle.record.proofs.Codes.{code_of_kind, by_kind, unknown_eqb}
use Rattle.book.specs.Lists.{any}
use Rattle.book.specs.Faults.{is_kind, is_declaration}
use Rattle.book.specs.Outline.{is_one_of}
use Rattle.types.specs.Tables.{Tables, stubbed}
use Rattle.types.specs.Registry.{marked, with_type, with_alias, with_parameter}

-- messages, unions and newtypes
abbrev pub is_type : Record → Bool
is_type r = is_one_of (20 ∷ 21 ∷ 22 ∷ []) r

-- what a record is to the registry, x being its kind
pub data Declares (r : Record) (x : Result Kind UnknownKind) : Type 0 where
  a_type : is_type r ≡ true → is_kind 23 r ≡ false → is_kind 25 r ≡ false → is_declaration r ≡ true
      → ((s : Tables) → with_type r x s ≡ stubbed s r.a) → ((p : Option ℕ) (s : Tables) → with_alias r x p s ≡ s)
      → Declares r x
  an_alias : is_type r ≡ false → is_kind 23 r ≡ true → is_kind 25 r ≡ false → is_declaration r ≡ true
      → ((s : Tables) → with_type r x s ≡ s) → ((p : Option ℕ) (s : Tables) → with_alias r x p s ≡ with_parameter r p s)
      → Declares r x
  ambiguous : is_type r ≡ false → is_kind 23 r ≡ false → is_kind 25 r ≡ true → is_declaration r ≡ true
      → ((s : Tables) → with_type r x s ≡ marked s r.a) → ((p : Option ℕ) (s : Tables) → with_alias r x p s ≡ s)
      → Declares r x
  another : is_type r ≡ false → is_kind 23 r ≡ false → is_kind 25 r ≡ false
      → ((s : Tables) → with_type r x s ≡ s) → ((p : Option ℕ) (s : Tables) → with_alias r x p s ≡ s) → Declares r x

by_known : (r : Record) (k : Kind) → r.kind ≡ code_of k → Declares r (Ok k)
unfolding any
by_known r kinds.Message e = a_type (rw e refl) (rw e refl) (rw e refl) (rw e refl) (λ s. refl) (λ p s. refl)
by_known r kinds.Union e = a_type (rw e refl) (rw e refl) (rw e refl) (rw e refl) (λ s. refl) (λ p s. refl)
by_known r kinds.Newtype e = a_type (rw e refl) (rw e refl) (rw e refl) (rw e refl) (λ s. refl) (λ p s. refl)
by_known r kinds.Alias e = an_alias (rw e refl) (rw e refl) (rw e refl) (rw e refl) (λ s. refl) (λ p s. refl)
by_known r kinds.Ambiguous e = ambiguous (rw e refl) (rw e refl) (rw e refl) (rw e refl) (λ s. refl) (λ p s. refl)
by_known r kind e = another (rw e refl) (rw e refl) (rw e refl) (λ s. refl) (λ p s. refl)

by_unknown : (r : Record) (u : UnknownKind) → kind_from r.kind ≡ Err u → Declares r (Err u)
unfolding any
by_unknown r u e =
    another
    (rw (
      any,
      unknown_eqb r.kind u e kinds.Message,
      unknown_eqb r.kind u e kinds.Union,
      unknown_eqb r.kind u e kinds.Newtype,
    ) refl)
    (unknown_eqb r.kind u e kinds.Alias) (unknown_eqb r.kind u e kinds.Ambiguous) (λ s. refl) (λ p s. refl)

pub declares : (r : Record) → Declares r (kind_from r.kind)
declares r =
    by_kind (λ n. r.kind ≡ n → Declares r (kind_from n))
    (λ k e. subst (λ (x : Result Kind UnknownKind). Declares r x) (sym (code_of_kind k)) (by_known r k e))
    (λ n u is e. subst (λ (x : Result Kind UnknownKind). Declares r x) (sym is)
    (by_unknown r u (subst (λ (m : ℕ). kind_from m ≡ Err u) (sym e) is)))
    r.kind refl

-- each of them is a declaration
pub type_declares : (r : Record) → is_type r ≡ true → is_declaration r ≡ true
type_declares r e = go (kind_from r.kind) (declares r)
  where
    go : (k : Result Kind UnknownKind) → Declares r k → is_declaration r ≡ true
    go k (a_type p q s dec w a) = dec
    go k (an_alias p q s dec w a) = dec
    go k (ambiguous p q s dec w a) = dec
    go k (another p q s w a) = let z : true ≡ false = sym e ∙ p in cc

pub alias_declares : (r : Record) → is_kind 23 r ≡ true → (is_declaration r ≡ true) × (is_type r ≡ false)
alias_declares r e = go (kind_from r.kind) (declares r)
  where
    go : (k : Result Kind UnknownKind) → Declares r k → (is_declaration r ≡ true) × (is_type r ≡ false)
    go k (a_type p q s dec w a) = let z : true ≡ false = sym e ∙ q in cc
    go k (an_alias p q s dec w a) = (dec, p)
    go k (ambiguous p q s dec w a) = (dec, p)
    go k (another p q s w a) = let z : true ≡ false = sym e ∙ q in cc

pub mark_declares : (r : Record) → is_kind 25 r ≡ true → is_declaration r ≡ true
mark_declares r e = go (kind_from r.kind) (declares r)
  where
    go : (k : Result Kind UnknownKind) → Declares r k → is_declaration r ≡ true
    go k (a_type p q s dec w a) = dec
    go k (an_alias p q s dec w a) = dec
    go k (ambiguous p q s dec w a) = dec
    go k (another p q s w a) = let z : true ≡ false = sym e ∙ s in cc
