-- One step along the records behind a declaration or an item.
use Rattle.std.proofs.Common.{◌≡◌, ℕ, ◌+◌, ◌-◌, ◌<◌, ◌≤◌, Bool, List, length, get_or, take, drop, refl}
use Rattle.std.proofs.Common.{add-one, length-drop, true, None, Ok}
use Rattle.std.proofs.Math.ListN.{drop_of_length-le}
use Rattle.std.proofs.Math.Seq.{drop-cons, take-length}
use Rattle.record.specs.declared.kind.Kind.{Kind}
use Rattle.record.specs.declared.kind.Kind.TheVariants.{Message, Union, Newtype, Alias, Constant, Ambiguous}
use Rattle.record.specs.declared.kind.Kind.TheVariants.{Field, Tombstone, Variant}
use Rattle.record.specs.Kind.{kind_from, is_declaration_kind}
use Rattle.book.specs.Outline.{Book, ◌!◌}
use Rattle.bodies.specs.declared.encoding.Annotations.{Annotations}
use Rattle.constants.specs.declared.reached.Settled.{Settled}
use Rattle.types.specs.Code.{State, Outcome, done, next}
use Rattle.bodies.specs.Code.{seen_by, seen_behind, string_by, first_string, item_by, lower_items, decl_by}
use Rattle.bodies.specs.Code.{lower_bodies, lower_constant, lower_constants}

-- a slice from a place on
rest_of : (xs : List ℕ) (i : ℕ) → take (length xs - i) (drop i xs) ≡ drop i xs
rest_of xs i = rw (← length-drop i xs) (take-length (drop i xs))

pub seen-next : (book : Book) (behind : List ℕ) (i : ℕ) (s : Annotations) → i < length behind
    → seen_behind book (drop i behind) s
    ≡ seen_by (kind_from (book ! get_or behind i 0).kind) (book ! get_or behind i 0) s
    (λ t. seen_behind book (drop (i + 1) behind) t)
unfolding seen_behind
seen-next book behind i s h = rw (add-one, drop-cons behind i 0) refl

pub seen-end : (book : Book) (behind : List ℕ) (i : ℕ) (s : Annotations) → length behind ≤ i
    → seen_behind book (drop i behind) s ≡ s
unfolding seen_behind
seen-end book behind i s h = rw (drop_of_length-le behind h) refl

pub string-next : (book : Book) (key : ℕ) (behind : List ℕ) (i : ℕ) → i < length behind
    → first_string book key (drop i behind)
    ≡ string_by (kind_from (book ! get_or behind i 0).kind) key (book ! get_or behind i 0)
    (first_string book key (drop (i + 1) behind))
unfolding first_string
string-next book key behind i h = rw (add-one, drop-cons behind i 0) refl

pub string-end : (book : Book) (key : ℕ) (behind : List ℕ) (i : ℕ) → length behind ≤ i
    → first_string book key (drop i behind) ≡ None
unfolding first_string
string-end book key behind i h = rw (drop_of_length-le behind h) refl

pub items-next : (delta : Bool) (behind : List ℕ) (i : ℕ) (s : State) → i < length behind
    → lower_items delta (drop i behind) s
    ≡ item_by (kind_from (s.book ! get_or behind i 0).kind) delta (get_or behind i 0)
    (take (length behind - (i + 1)) (drop (i + 1) behind)) s (λ t. lower_items delta (drop (i + 1) behind) t)
unfolding lower_items
items-next delta behind i s h = rw (rest_of behind (i + 1), add-one, drop-cons behind i 0) refl

pub items-end : (delta : Bool) (behind : List ℕ) (i : ℕ) (s : State) → length behind ≤ i
    → lower_items delta (drop i behind) s ≡ done tt s
unfolding lower_items
items-end delta behind i s h = rw (drop_of_length-le behind h) refl

-- a record that is no item
module _ (kind : Kind) (delta : Bool) (n : ℕ) (behind : List ℕ) (s : State) (f : State → Outcome Unit) where
  pub item-ends : is_declaration_kind kind ≡ true → item_by (Ok kind) delta n behind s f ≡ done tt s
  item-ends e = go kind e
    where
      go : (kind : Kind) → is_declaration_kind kind ≡ true → item_by (Ok kind) delta n behind s f ≡ done tt s
      go Field e = cc
      go Tombstone e = cc
      go Variant e = cc
      go Message e = refl
      go Union e = refl
      go Newtype e = refl
      go Alias e = refl
      go Constant e = refl
      go Ambiguous e = refl
      go kind e = cc

pub bodies-next : (outside : List ℕ) (i : ℕ) (s : State) → i < length outside
    → lower_bodies (drop i outside) s
    ≡ decl_by (kind_from (s.book ! get_or outside i 0).kind) (get_or outside i 0)
    (take (length outside - (i + 1)) (drop (i + 1) outside)) s (λ t. lower_bodies (drop (i + 1) outside) t)
unfolding lower_bodies
bodies-next outside i s h = rw (rest_of outside (i + 1), add-one, drop-cons outside i 0) refl

pub bodies-end : (outside : List ℕ) (i : ℕ) (s : State) → length outside ≤ i
    → lower_bodies (drop i outside) s ≡ done tt s
unfolding lower_bodies
bodies-end outside i s h = rw (drop_of_length-le outside h) refl

pub constants-next : (xs : List Settled) (i : ℕ) (s : State) → i < length xs
    → lower_constants (drop i xs) s
    ≡ next (lower_constant (get_or xs i (record { place = 0; value = None })) s)
    (λ u t. lower_constants (drop (i + 1) xs) t)
unfolding lower_constants
constants-next xs i s h = rw (add-one, drop-cons xs i (record { place = 0; value = None })) refl

pub constants-end : (xs : List Settled) (i : ℕ) (s : State) → length xs ≤ i → lower_constants (drop i xs) s ≡ done tt s
unfolding lower_constants
constants-end xs i s h = rw (drop_of_length-le xs h) refl

pub ruleset behind = (seen-next, seen-end, string-next, string-end)

pub ruleset along = (items-next, items-end, item-ends, bodies-next, bodies-end)

pub ruleset settled = (constants-next, constants-end)
