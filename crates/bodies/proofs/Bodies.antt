-- Constraints, encodings, messages, unions and newtypes: the records written are within their widths, if the book's
-- are, and none is a 41.
-- Assumes nothing.
use Prim.Native.Nat.{ℕ, zero, suc, ◌^◌, ◌<◌}
use mathlib.Core.Bool.{Bool, true, false, cond, ◌&&◌, not}
use mathlib.Core.List.{List, [], ◌∷◌}
use mathlib.Core.Option.{Option, some, none}
use mathlib.Core.Path.{◌≡◌, refl}
use native.Mathlib.Omega.{arith}
use lib.Dec.{eqb, lit<}
use Rattle.record.specs.declared.Record.{Record}
use Rattle.record.specs.Layout.{Within}
use Rattle.book.specs.Lists.{All, find}
use Rattle.book.specs.Faults.{is_kind}
use Rattle.book.specs.Outline.{Book, ◌!◌, notes, items}
use Rattle.book.proofs.Lists.{If, either, all_keep, all-keep_while, all_drop, if-find}
use Rattle.types.specs.Events.{writes}
use Rattle.types.specs.Resolved.{ResolvedType}
use Rattle.types.specs.Step.{Step, give}
use Rattle.types.specs.Numbers.{type_declarations}
use Rattle.types.proofs.Steps.{Below, Fine, Keeps, keeps-give, keeps-at, keeps-emit, keeps_then, keeps_next, keeps_each}
use Rattle.types.proofs.Resolving.{within, keeps_type}
use Rattle.bodies.specs.Constraint.{WhereExpr, and_or, negated, compare, range, operand, where_expr, lower_where_by, lower_where_expr}
use Rattle.bodies.specs.Encoding.{Encoding, default, varint, zigzag, FieldEncoding, Inner, not_eligible, had_before, over}
use Rattle.bodies.specs.Encoding.{is_keyless_number, limit_in, compute_field_encoding}
use Rattle.bodies.specs.Encoding.{delta_inner, under_inner, under_delta, encoding_number, encoding_record}
use Rattle.bodies.specs.Bodies.{unless_none, lower_field, first_string, lower_tombstone, lower_variant, lower_item}
use Rattle.bodies.specs.Bodies.{lower_message, lower_union, lower_newtype, lower_decl, lower_bodies}

-- a constraint or operand record
abbrev SizedWhere : WhereExpr → Type 0
SizedWhere (and_or p a b) = p < 2 ^ 8
SizedWhere (negated a) = Unit
SizedWhere (compare p a c) = (p < 2 ^ 8) × (c < 2 ^ 16)
SizedWhere (range p a b c) = (p < 2 ^ 8) × (c < 2 ^ 16)
SizedWhere (operand p a v) = (p < 2 ^ 8) × (a < 2 ^ 16) × (v < 2 ^ 64)

sized_where : (r : Record) → Within r → SizedWhere (where_expr r)
unfolding where_expr
sized_where r w =
    either SizedWhere (is_kind 13 r && eqb r.sub 2) tt
    (either SizedWhere (is_kind 13 r) w.sub
    (either SizedWhere (is_kind 14 r) (w.sub, w.c)
    (either SizedWhere (is_kind 15 r) (w.sub, w.c)
    (either SizedWhere (eqb r.sub 4) (lit< tt, lit< tt, lit< tt) (w.sub, w.a, w.v)))))

module _ {W S : Type 0} where
  keeps_where_by :
      (child : ℕ → Step ℕ) → ((a : ℕ) → Keeps W S (Below W) (child a)) →
      (e : WhereExpr) → (W → SizedWhere e) → Keeps W S (Below W) (lower_where_by child e)
  unfolding lower_where_by
  keeps_where_by child c (and_or p a b) h =
      keeps_then (c a) (λ l q. keeps_then (c b) (λ r y. keeps-emit _ (λ s. refl, λ w. omega (arith, h w, q w, y w))))
  keeps_where_by child c (negated a) h = keeps_then (c a) (λ l q. keeps-emit _ (λ s. refl, λ w. omega (arith, q w)))
  keeps_where_by child c (compare p a f) h = keeps_then (c a) (λ l q. keeps-emit _ (λ s. refl, λ w. omega (arith, h w, q w)))
  keeps_where_by child c (range p a b f) h =
      keeps_then (c a) (λ l q. keeps_then (c b) (λ r y. keeps-emit _ (λ s. refl, λ w. omega (arith, h w, q w, y w))))
  keeps_where_by child c (operand p a v) h = keeps-emit _ (λ s. refl, λ w. omega (arith, h w))

  keeps_where :
      (levels : ℕ) (book : Book) → (W → All Within book.records) → (n : ℕ) → Keeps W S (Below W) (lower_where_expr levels book n)
  unfolding lower_where_expr
  keeps_where zero book given n = keeps-give 0 (λ w. lit< tt)
  keeps_where (suc levels) book given n =
      keeps_where_by _ (keeps_where levels book given) (where_expr (book ! n)) (λ w. sized_where _ (within book given n w))

-- an encoding whose limit is a word
abbrev SizedLimit : Option ℕ → Type 0
SizedLimit o = If (λ v. v < 2 ^ 64) o

sized_limit : (b : Bool) (rs : List Record) → All Within rs → SizedLimit (limit_in b rs)
unfolding limit_in
sized_limit b [] h = tt
sized_limit b (r ∷ rs) h =
    go (b && is_keyless_number r) (sized_limit (cond (is_kind 34 r) (eqb r.sub 3) b) rs h.1)
  where
    rest : Option ℕ
    rest = limit_in (cond (is_kind 34 r) (eqb r.sub 3) b) rs

    go : (t : Bool) → SizedLimit rest → SizedLimit (elim t [ true ↦ some r.v | false ↦ rest ])
    go true q = h.0.v
    go false q = q

limit_same : (b : Bool) (t : ResolvedType) (e : FieldEncoding) → (under_delta b t e).limit ≡ e.limit
unfolding under_delta under_inner
limit_same false t e = refl
limit_same true t e = go e.delta (delta_inner t) refl refl
  where
    go : (d : Bool) (i : Inner) → e.delta ≡ d → delta_inner t ≡ i → (under_delta true t e).limit ≡ e.limit
    go true i p q = rw p
    go false not_eligible p q = rw (p, q)
    go false had_before p q = rw (p, q)
    go false (over base) p q = rw (p, q)

encoding_below : (e : Encoding) → encoding_number e < 3
unfolding encoding_number
encoding_below default = lit< tt
encoding_below varint = lit< tt
encoding_below zigzag = lit< tt

bit_below : (b : Bool) → elim b as (λ x. ℕ) [ true ↦ 1 | false ↦ 0 ] < 2
bit_below true = lit< tt
bit_below false = lit< tt

module _ {W S : Type 0} where
  fine_encoding : (e : FieldEncoding) → (W → SizedLimit e.limit) → Fine W S (writes (encoding_record e))
  unfolding encoding_record
  fine_encoding e h = go e.limit refl h
    where
      go : (o : Option ℕ) → e.limit ≡ o → (W → SizedLimit o) → Fine W S (writes (encoding_record e))
      go none p q = rw p (λ c. refl, λ w. omega (arith, encoding_below e.encoding, bit_below e.delta))
      go (some v) p q = rw p (λ c. refl, λ w. omega (arith, q w, encoding_below e.encoding, bit_below e.delta))

  -- what a field refers to
  keeps_unless : (n : ℕ) (m : Step ℕ) → Keeps W S (Below W) m → Keeps W S (Below W) (unless_none n m)
  unfolding unless_none
  keeps_unless n m k = go (eqb n 65535)
    where
      go : (b : Bool) → Keeps W S (Below W) (λ s. elim b [ true ↦ give 65535 s | false ↦ m s ])
      go true = keeps-give 65535 (λ w. lit< tt)
      go false = k

-- what stands behind a declaration or an item
notes-within : (book : Book) (n : ℕ) → All Within book.records → All Within (notes book n)
unfolding notes
notes-within book n h = all-keep_while Within _ _ (all_keep Within _ _ (all_drop Within (suc n) book.records h))

string_below : (key : ℕ) (ns : List Record) → All Within ns → first_string key ns < 2 ^ 16
unfolding first_string
string_below key ns h = go (find test ns) refl (if-find Within test ns h)
  where
    test : Record → Bool
    test r = is_kind 36 r && eqb r.sub key && not (eqb r.a 65535)

    go : (o : Option Record) → find test ns ≡ o → If Within o → first_string key ns < 2 ^ 16
    go none e q = rw e (lit< tt)
    go (some r) e q = rw e q.a

module _ {W S : Type 0} (book : Book) (given : W → All Within book.records) where
  -- items
  keeps_field : (b : Bool) (n : ℕ) → Keeps W S (λ x. Unit) (lower_field book b n)
  unfolding lower_field compute_field_encoding
  keeps_field b n =
      let r = book ! n in
      keeps_then (keeps_type book given r.b)
      (λ t q.
      keeps_then (keeps_unless r.c _ (keeps_where 64 book given r.c))
      (λ c y.
      keeps_next (keeps-emit _ (λ s. refl, λ w. omega (arith, q w, y w, within book given n w)))
      (keeps_next
      (keeps-emit _ (fine_encoding _ (λ w. rw limit_same (sized_limit false _ (notes-within book n (given w))))))
      (keeps-give tt tt))))

  keeps_tombstone : (n : ℕ) → Keeps W S (λ x. Unit) (lower_tombstone book n)
  unfolding lower_tombstone
  keeps_tombstone n =
      let r = book ! n in
      keeps_then
      (keeps_unless r.c _ (keeps_then (keeps_type book given r.c) (λ t q. keeps-give _ (λ w. (q w).0))))
      (λ c y.
      keeps_next
      (keeps-emit _ (
        λ s. refl,
        λ w.
            let ns = notes-within book n (given w) in
            omega (arith, y w, within book given n w, string_below 0 (notes book n) ns, string_below 1 (notes book n) ns),
      ))
      (keeps-give tt tt))

  keeps_variant : (n : ℕ) → Keeps W S (λ x. Unit) (lower_variant book n)
  unfolding lower_variant
  keeps_variant n = keeps_next (keeps-emit _ (λ s. refl, λ w. omega (arith, within book given n w))) (keeps-give tt tt)

  keeps_item : (b : Bool) (n : ℕ) → Keeps W S (λ x. Unit) (lower_item book b n)
  unfolding lower_item
  keeps_item b n =
      keeps_next (keeps-at n)
      (either (Keeps W S (λ x. Unit)) (is_kind 31 (book ! n)) (keeps_field b n)
      (either (Keeps W S (λ x. Unit)) (is_kind 32 (book ! n)) (keeps_tombstone n) (keeps_variant n)))

  -- declarations
  keeps_message : (n : ℕ) → Keeps W S (λ x. Unit) (lower_message book n)
  unfolding lower_message
  keeps_message n =
      keeps_next (keeps-emit _ (λ s. refl, λ w. omega (arith, within book given n w))) (keeps_each _ (keeps_item _) (items book n))

  keeps_union : (n : ℕ) → Keeps W S (λ x. Unit) (lower_union book n)
  unfolding lower_union
  keeps_union n =
      keeps_next (keeps-emit _ (λ s. refl, λ w. omega (arith, within book given n w))) (keeps_each _ (keeps_item false) (items book n))

  keeps_newtype : (n : ℕ) → Keeps W S (λ x. Unit) (lower_newtype book n)
  unfolding lower_newtype
  keeps_newtype n =
      keeps_then (keeps_type book given (book ! n).b)
      (λ t q. keeps_next (keeps-emit _ (λ s. refl, λ w. omega (arith, q w, within book given n w))) (keeps-give tt tt))

  keeps_decl : (n : ℕ) → Keeps W S (λ x. Unit) (lower_decl book n)
  unfolding lower_decl
  keeps_decl n =
      keeps_next (keeps-at n)
      (either (Keeps W S (λ x. Unit)) (is_kind 20 (book ! n)) (keeps_message n)
      (either (Keeps W S (λ x. Unit)) (is_kind 21 (book ! n)) (keeps_union n) (keeps_newtype n)))

  pub keeps_bodies : Keeps W S (λ x. Unit) (lower_bodies book)
  unfolding lower_bodies
  keeps_bodies = keeps_each _ keeps_decl (type_declarations book)
