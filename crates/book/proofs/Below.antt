-- What the accessors of a book that is read promise: each record, how many there are, and that children are earlier
-- records.
-- Assumes nothing.
use Rattle.std.specs.Prelude.{ℕ, ◌≤◌, ◌<◌, Bool, true, false, not, ◌&&◌, ◌||◌, List, [], ◌∷◌, ◌++◌, map, ◌≡◌, eqb, leb, length, Ok}
use Rattle.std.proofs.Common.{refl, sym, ◌∙◌, ap, subst, arith}
use Rattle.std.proofs.Math.Option.{Option, some, none}
use mathlib.Core.Bool.{false≢true}
use mathlib.Core.List.{Memᴰ}
use Rattle.std.proofs.lemmas.List.{get_or_past, length-map}
use borrow.Author.Tests.{leb-true, leb-false, eqb-true, eq-eqb, not-false}
use Rattle.record.specs.declared.Record.{Record}
use Rattle.record.specs.declared.kind.Kind.{Kind}
use Rattle.record.specs.declared.kind.Kind.TheVariants.{Generic, OverOne, OverTwo, Operation, Logic, Comparison, Range, Newtype, Alias, Constant, Field, Tombstone}
use Rattle.record.specs.Kind.{code_of, kind_from}
use Rattle.record.specs.Layout.{record_at}
use Rattle.record.proofs.Codes.{kind_is}
use Rattle.book.specs.Lists.{All, any, find, up_to}
use Rattle.book.specs.Shape as shapes
use Rattle.book.specs.Shape.{Row, Child, table, is_row, row_of, fits, well_shaped, child_in, children_by, children, child, child?, unused, flag, bits, name, name?, string, string?, ordinal, free}
use Rattle.book.specs.Blocks.{record_count, records}
use Rattle.book.specs.Faults.{record_of}
use Rattle.book.specs.Outline.{Book, read, ◌!◌}
use Rattle.book.specs.Trees.{IsChild, IsRecord, Readable}
use Rattle.book.specs.Accepted.{blank, book_in, Kept, Held, IsRead, Earlier}
use Rattle.book.proofs.Cuts.{whole_same, whole_held}
use Rattle.book.proofs.Lists.{from-length}
use Rattle.book.proofs.Members.{Found, found, first_mem, of_all, all_of, at_from}
use Rattle.book.proofs.Records.{at_map}
use Rattle.book.proofs.Trees.{both_so, none_passes}

-- both parts of a list have what the whole has
all_parts : {A : Type 0} (P : A → Type 0) (l r : List A) → All P (l ++ r) → All P l × All P r
all_parts P [] r h = (tt, h)
all_parts P (x ∷ l) r h = let (a, b) = all_parts P l r h.1 in ((h.0, a), b)

-- a field that always names a child, and one that may
abbrev names_child : shapes.Field → Bool
names_child (child g) = true
names_child (child? g) = false
names_child unused = false
names_child flag = false
names_child bits = false
names_child name = false
names_child name? = false
names_child string = false
names_child string? = false
names_child ordinal = false
names_child free = false

abbrev may_name_child : shapes.Field → Bool
may_name_child (child g) = false
may_name_child (child? g) = true
may_name_child unused = false
may_name_child flag = false
may_name_child bits = false
may_name_child name = false
may_name_child name? = false
may_name_child string = false
may_name_child string? = false
may_name_child ordinal = false
may_name_child free = false

child_below : (f : shapes.Field) (x n : ℕ) → names_child f ≡ true → All (λ (c : Child). c.number < n) (child_in f x) → x < n
unfolding child_in
child_below (child g) x n e h = h.0
child_below (child? g) x n e h = absurd (false≢true e)
child_below unused x n e h = absurd (false≢true e)
child_below flag x n e h = absurd (false≢true e)
child_below bits x n e h = absurd (false≢true e)
child_below name x n e h = absurd (false≢true e)
child_below name? x n e h = absurd (false≢true e)
child_below string x n e h = absurd (false≢true e)
child_below string? x n e h = absurd (false≢true e)
child_below ordinal x n e h = absurd (false≢true e)
child_below free x n e h = absurd (false≢true e)

maybe_below : (f : shapes.Field) (x n : ℕ) → may_name_child f ≡ true → (x ≡ 65535 → ⊥) → All (λ (c : Child). c.number < n) (child_in f x) → x < n
unfolding child_in
maybe_below (child? g) x n e there h = go (eqb x 65535) refl h
  where
    go :
        (b : Bool) → eqb x 65535 ≡ b →
        All (λ (c : Child). c.number < n) (elim b [ true ↦ [] | false ↦ record { group = g; number = x } ∷ [] ]) → x < n
    go true t h = absurd (there (eqb-true x 65535 t))
    go false t h = h.0
maybe_below (child g) x n e there h = absurd (false≢true e)
maybe_below unused x n e there h = absurd (false≢true e)
maybe_below flag x n e there h = absurd (false≢true e)
maybe_below bits x n e there h = absurd (false≢true e)
maybe_below name x n e there h = absurd (false≢true e)
maybe_below name? x n e there h = absurd (false≢true e)
maybe_below string x n e there h = absurd (false≢true e)
maybe_below string? x n e there h = absurd (false≢true e)
maybe_below ordinal x n e there h = absurd (false≢true e)
maybe_below free x n e there h = absurd (false≢true e)

-- the row of a well shaped record
record HasRow (r : Record) (w : Row) : Type 0 where
  row_is : row_of r ≡ some w
  in_table : Memᴰ w table
  kind_is_lem : r.kind ≡ w.kind
  at_least : w.low ≤ r.sub

has_row : (r : Record) → well_shaped r ≡ true → (w : Row) × HasRow r w
unfolding well_shaped row_of
has_row r shaped = go (row_of r) refl (found (is_row r) table) shaped
  where
    go : (o : Option Row) → row_of r ≡ o → Found (is_row r) table o → fits r o ≡ true → (w : Row) × HasRow r w
    go none is f e = absurd (false≢true e)
    go (some w) is f e =
        let (kl, high) = both_so (eqb r.kind w.kind && leb w.low r.sub) (leb r.sub w.high) f.passes in
        let (k, low) = both_so (eqb r.kind w.kind) (leb w.low r.sub) kl in
        (w, record { row_is = is; in_table = first_mem f; kind_is_lem = eqb-true _ _ k; at_least = leb-true _ _ low })

-- what holds of each row of a kind
of_kind :
    (k : ℕ) (test : Row → Bool) → any (λ w. eqb w.kind k && not (test w)) table ≡ false →
    (w : Row) → Memᴰ w table → w.kind ≡ k → test w ≡ true
of_kind k test each w m is = of_all (λ w. w.kind ≡ k → test w ≡ true) table (none_passes _ (λ w e same. holds w e (eq-eqb w.kind k same)) table each) w m is
  where
    holds : (w : Row) → eqb w.kind k && not (test w) ≡ false → eqb w.kind k ≡ true → test w ≡ true
    holds w e t = let f : not (test w) ≡ false = rw t at e in not-false (test w) f

module _ (n : ℕ) (r : Record) (shaped : well_shaped r ≡ true) (below : All (λ (c : Child). c.number < n) (children r)) where
  -- the children that the row says, field by field
  by_fields :
      (w : Row) → row_of r ≡ some w →
      All (λ (c : Child). c.number < n) (child_in w.a r.a) × All (λ (c : Child). c.number < n) (child_in w.b r.b) × All (λ (c : Child). c.number < n) (child_in w.c r.c)
  unfolding children
  by_fields w is =
      let all : All (λ (c : Child). c.number < n) (child_in w.a r.a ++ child_in w.b r.b ++ child_in w.c r.c) = subst (λ (o : Option Row). All (λ (c : Child). c.number < n) (children_by r o)) is below in
      let (ab, c) = all_parts (λ (c : Child). c.number < n) (child_in w.a r.a ++ child_in w.b r.b) (child_in w.c r.c) all in
      let (a, b) = all_parts (λ (c : Child). c.number < n) (child_in w.a r.a) (child_in w.b r.b) ab in
      (a, b, c)

  module _ (kind : Kind) (is : kind_from r.kind ≡ Ok kind) where
    first : any (λ w. eqb w.kind (code_of kind) && not (names_child w.a)) table ≡ false → r.a < n
    first each =
        let (w, h) = has_row r shaped in
        child_below w.a r.a n
        (of_kind (code_of kind) (λ w. names_child w.a) each w h.in_table (sym h.kind_is_lem ∙ kind_is r.kind kind is))
        (by_fields w h.row_is).0

    second : any (λ w. eqb w.kind (code_of kind) && not (names_child w.b)) table ≡ false → r.b < n
    second each =
        let (w, h) = has_row r shaped in
        child_below w.b r.b n
        (of_kind (code_of kind) (λ w. names_child w.b) each w h.in_table (sym h.kind_is_lem ∙ kind_is r.kind kind is))
        (by_fields w h.row_is).1

    second_under : any (λ w. eqb w.kind (code_of kind) && not (leb 2 w.low || names_child w.b)) table ≡ false → r.sub < 2 → r.b < n
    second_under each few =
        let (w, h) = has_row r shaped in
        let either : leb 2 w.low || names_child w.b ≡ true = of_kind (code_of kind) (λ w. leb 2 w.low || names_child w.b) each w h.in_table (sym h.kind_is_lem ∙ kind_is r.kind kind is) in
        child_below w.b r.b n (go w h.at_least (leb 2 w.low) refl either) (by_fields w h.row_is).1
      where
        go : (w : Row) → w.low ≤ r.sub → (b : Bool) → leb 2 w.low ≡ b → b || names_child w.b ≡ true → names_child w.b ≡ true
        go w less true t e = absurd (omega (arith, leb-true 2 w.low t))
        go w less false t e = e

    third : any (λ w. eqb w.kind (code_of kind) && not (names_child w.c)) table ≡ false → r.c < n
    third each =
        let (w, h) = has_row r shaped in
        child_below w.c r.c n
        (of_kind (code_of kind) (λ w. names_child w.c) each w h.in_table (sym h.kind_is_lem ∙ kind_is r.kind kind is))
        (by_fields w h.row_is).2

    third_there : any (λ w. eqb w.kind (code_of kind) && not (may_name_child w.c)) table ≡ false → (r.c ≡ 65535 → ⊥) → r.c < n
    third_there each there =
        let (w, h) = has_row r shaped in
        maybe_below w.c r.c n
        (of_kind (code_of kind) (λ w. may_name_child w.c) each w h.in_table (sym h.kind_is_lem ∙ kind_is r.kind kind is))
        there (by_fields w h.row_is).2

  are_earlier : Earlier n r
  unfolding table any
  are_earlier =
      record {
        all = below;
        generic = λ is. second Generic is refl;
        over_one = λ is. first OverOne is refl;
        over_two = λ is. (first OverTwo is refl, second OverTwo is refl);
        operation = λ is. (first Operation is refl, second Operation is refl);
        logic = λ is. first Logic is refl;
        logic_two = λ is. second_under Logic is refl;
        comparison = λ is. first Comparison is refl;
        range = λ is. (first Range is refl, second Range is refl);
        newtype = λ is. second Newtype is refl;
        alias = λ is. second Alias is refl;
        constant = λ is. (second Constant is refl, third Constant is refl);
        field = λ is. second Field is refl;
        field_where = λ is. third_there Field is refl;
        tombstone = λ is. third_there Tombstone is refl;
      }

-- no byte stands for a kind with another code
not_kind : (k : Kind) {A : Type 0} → (0 ≡ code_of k → ⊥) → kind_from 0 ≡ Ok k → A
not_kind k other is = absurd (other (kind_is 0 k is))

blank_earlier : (n : ℕ) → Earlier n blank
unfolding children row_of table find
blank_earlier n =
    record {
      all = tt;
      generic = not_kind Generic (λ z. omega arith);
      over_one = not_kind OverOne (λ z. omega arith);
      over_two = not_kind OverTwo (λ z. omega arith);
      operation = not_kind Operation (λ z. omega arith);
      logic = not_kind Logic (λ z. omega arith);
      logic_two = not_kind Logic (λ z. omega arith);
      comparison = not_kind Comparison (λ z. omega arith);
      range = not_kind Range (λ z. omega arith);
      newtype = not_kind Newtype (λ z. omega arith);
      alias = not_kind Alias (λ z. omega arith);
      constant = not_kind Constant (λ z. omega arith);
      field = not_kind Field (λ z. omega arith);
      field_where = not_kind Field (λ z. omega arith);
      tombstone = not_kind Tombstone (λ z. omega arith);
    }

module _ (bytes : List ℕ) (readable : Readable bytes) where
  pub is_read : IsRead (read bytes)
  unfolding read
  is_read =
      record {
        some_records = omega (arith, readable.counted, readable.some_records);
        few_records = omega (arith, readable.counted, readable.few_records);
        well_formed = readable.well_formed;
      }

  pub counted : (count : ℕ) → count ≡ record_count bytes → count ≡ length (read bytes).records
  unfolding read
  counted count is = is ∙ sym readable.counted

  record_absent : (n : ℕ) → record_count bytes ≤ n → blank ≡ read bytes ! n
  unfolding read record_of
  record_absent n past = sym (get_or_past (records bytes) n blank (omega (arith, readable.counted)))

  earlier : (n : ℕ) → Earlier n (read bytes ! n)
  unfolding read
  earlier n = go (leb (record_count bytes) n) refl
    where
      go : (b : Bool) → leb (record_count bytes) n ≡ b → Earlier n (read bytes ! n)
      go true t = subst (Earlier n) (record_absent n (leb-true _ _ t)) (blank_earlier n)
      go false t =
          let less : n < length (records bytes) = omega (arith, readable.counted, leb-false _ _ t) in
          let h : IsRecord (records bytes) n = readable.well_formed n less in
          let r : Record = record_of (records bytes) n in
          are_earlier n r h.shaped
          (all_of (λ (c : Child). c.number < n) (children r) (λ c m. (of_all (IsChild (records bytes) n) (children r) h.children_are c m).earlier))

-- how many records are held
pub counted_in : (bytes : List ℕ) (count : ℕ) (wildcards : Bool) → count ≡ length (book_in bytes count wildcards).records
unfolding book_in
counted_in bytes count wildcards = sym (length-map (up_to count) (record_at bytes) ∙ from-length 0 count)

-- the record that stands at a place, if one does, and none past the last
module _ {bytes : List ℕ} {count : ℕ} {wildcards : Bool} (held : Held bytes count wildcards) where
  pub held_is_read : IsRead (book_in bytes count wildcards)
  held_is_read = subst IsRead (sym held.same) (is_read held.whole held.readable)

  module _ (n : ℕ) where
    pub held_is : record_at bytes n ≡ book_in bytes count wildcards ! n
    unfolding book_in record_of
    held_is = go (leb count n) refl
      where
        many : length (up_to count) ≡ count
        many = from-length 0 count

        go : (b : Bool) → leb count n ≡ b → record_at bytes n ≡ book_in bytes count wildcards ! n
        go true t =
            held.absent n (leb-true _ _ t)
            ∙ sym (get_or_past (map (record_at bytes) (up_to count)) n blank (omega (arith, length-map (up_to count) (record_at bytes), many, leb-true _ _ t)))
        go false t =
            let less : n < count = leb-false _ _ t in
            sym (at_map (record_at bytes) (up_to count) n 0 blank (omega (arith, many)) ∙ ap (record_at bytes) (at_from 0 count n 0 less ∙ omega arith))

    pub held_earlier : Earlier n (record_at bytes n)
    held_earlier =
        subst (Earlier n) (sym held_is)
        (subst (λ (b : Book). Earlier n (b ! n)) (sym held.same) (earlier held.whole held.readable n))

-- and in the bytes that are read
module _ {bytes : List ℕ} {count : ℕ} {wildcards : Bool} (kept : Kept bytes count wildcards) (n : ℕ) where
  pub record_is : record_at bytes n ≡ read bytes ! n
  record_is = held_is (whole_held kept) n ∙ ap (λ (b : Book). b ! n) (whole_same bytes kept.counted kept.wild)

  pub record_earlier : Earlier n (record_at bytes n)
  record_earlier = held_earlier (whole_held kept) n
