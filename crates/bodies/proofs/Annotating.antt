-- What the code sees behind a declaration or an item is what the notes there say.
-- Assumes nothing.
use Rattle.std.proofs.Common.{◌≡◌, ℕ, zero, suc, ◌+◌, Bool, true, false, not, cond, ◌&&◌, ◌||◌, List}
use Rattle.std.proofs.Common.{[], ◌∷◌, map, length, drop, ltb, eqb, refl, sym, ap, ◌∙◌, subst, arith, Option, Some}
use Rattle.std.proofs.Common.{None}
use Rattle.std.specs.Prelude.{is_none, if◌then◌else◌}
use Rattle.std.proofs.Math.Option.{Option as Maybe, some, none}
use Rattle.std.proofs.Math.ListN.{drop_of_length-le}
use Rattle.std.proofs.Math.Seq.{drop-cons}
use Rattle.std.proofs.lemmas.Bool.Decides.{nat_tests}
use Rattle.record.specs.declared.Record.{Record}
use Rattle.record.specs.Kind.{kind_from}
use Rattle.record.specs.Reference.{reference, reference_number}
use Rattle.book.specs.Lists.{any, find, keep, keep_while, from}
use Rattle.book.specs.Faults.{record_of, is_kind}
use Rattle.book.specs.Outline.{Book, ◌!◌, is_one_of, notes}
use Rattle.bodies.specs.declared.encoding.Annotations.{Annotations}
use Rattle.bodies.specs.declared.encoding.Argument.TheVariants as arguments
use Rattle.bodies.specs.declared.encoding.Encoding.TheVariants as codes
use Rattle.bodies.specs.declared.encoding.Annotation.TheVariants as annotations
use Rattle.types.specs.Resolved.{ResolvedType, primitive, sub_byte, semantic, named, one_child, two_children}
use Rattle.types.specs.Resolved.{inline_bits}
use Rattle.types.proofs.TypeRecords.{root_record}
use Rattle.bodies.specs.Encoding.{default, varint, zigzag, FieldEncoding, has_annotation, limit_in}
use Rattle.bodies.specs.Encoding.{compute_field_encoding, Inner, delta_inner, under_inner, under_delta}
use Rattle.bodies.specs.Bodies.{first_string}
use Rattle.bodies.specs.Annotated.{encoding_of, limit_of, field_encoding_of, no_annotations, encoded, with_annotation}
use Rattle.bodies.specs.Annotated.{with_argument, annotation_from, argument_from, is_number, inner_at, under_root}
use Rattle.bodies.specs.Code as code
use Rattle.bodies.proofs.Looking.{Note, an_annotation, an_argument, a_parameter, a_reason, no_note, note_of, one_of}

-- the record is a note
abbrev pub is_note : Record → Bool
is_note r = is_one_of (30 ∷ 34 ∷ 35 ∷ 36 ∷ []) r

-- the notes among the records with some numbers, up to the first record that is none
abbrev pub notes_among : Book → List ℕ → List Record
notes_among book ms = keep_while is_note (map (λ m. book ! m) ms)

-- the declarations and items among so many records from one on
abbrev pub outside_from : Book → ℕ → ℕ → List ℕ
outside_from book n m = keep (λ i. ltb 16 (book ! i).kind) (from n m)

abbrev nothing : Record
nothing = record { kind = 0; sub = 0; a = 0; b = 0; c = 0; v = 0; span = record { offset = 0; len = 0 } }

records_from : (rs : List Record) (n m : ℕ) → n + m ≡ length rs → map (record_of rs) (from n m) ≡ drop n rs
unfolding from record_of
records_from rs n zero h = sym (drop_of_length-le rs (omega arith))
records_from rs n (suc m) h =
    ap (λ (l : List Record). record_of rs n ∷ l) (records_from rs (suc n) m (omega arith))
    ∙ sym (drop-cons rs n nothing (omega arith))

keep-map : {A B : Type 0} (f : A → B) (test : B → Bool) (xs : List A)
    → map f (keep (λ x. test (f x)) xs) ≡ keep test (map f xs)
unfolding keep
keep-map f test [] = refl
keep-map f test (x ∷ xs) = go (test (f x)) (keep-map f test xs)
  where
    go : (b : Bool) → map f (keep (λ x. test (f x)) xs) ≡ keep test (map f xs)
        → map f (cond b (x ∷ keep (λ x. test (f x)) xs) (keep (λ x. test (f x)) xs))
        ≡ cond b (f x ∷ keep test (map f xs)) (keep test (map f xs))
    go true e = ap (λ l. f x ∷ l) e
    go false e = e

-- the notes of a record are those among the declarations and items behind it
pub notes_are : (book : Book) (n m : ℕ) → suc n + m ≡ length book.records
    → notes_among book (outside_from book (suc n) m) ≡ notes book n
unfolding notes
notes_are book n m h =
    ap (keep_while is_note)
    (keep-map (λ i. book ! i) (λ r. ltb 16 r.kind) (from (suc n) m)
    ∙ ap (keep (λ r. ltb 16 r.kind)) (records_from book.records (suc n) m h))

-- a record under another kind
abbrev with_kind : ℕ → Record → Record
with_kind k r = record { kind = k; sub = r.sub; a = r.a; b = r.b; c = r.c; v = r.v; span = r.span }

or_none : (a : Bool) → a ≡ a || false
or_none true = refl
or_none false = refl

or_more : (a b c : Bool) → (a || b) || c ≡ a || (elim b [ true ↦ true | false ↦ c ])
or_more true b c = refl
or_more false true c = refl
or_more false false c = refl

clash : (n i j : ℕ) → eqb n i ≡ true → eqb n j ≡ true → eqb i j ≡ false → ⊥
clash n i j p q r = grind (arith, nat_tests)

-- an annotation more, by its sub
annotated : (s : Annotations) (sub : ℕ)
    → with_annotation s (annotation_from sub)
    ≡ record {
      varint = s.varint || eqb sub 0;
      zigzag = s.zigzag || eqb sub 1;
      delta = s.delta || eqb sub 2;
      limiting =
          eqb sub 3;
      limit = s.limit;
    }
annotated s sub = go (eqb sub 0) (eqb sub 1) (eqb sub 2) (eqb sub 3) refl refl refl refl
  where
    true_or : (a : Bool) → true ≡ a || true
    true_or true = refl
    true_or false = refl

    made : Bool → Bool → Bool → Bool → Annotations
    made v z d l = record { varint = v; zigzag = z; delta = d; limiting = l; limit = s.limit }

    go : (a b c d : Bool) → eqb sub 0 ≡ a → eqb sub 1 ≡ b → eqb sub 2 ≡ c → eqb sub 3 ≡ d
        → with_annotation s (cond a annotations.Varint
        (cond b annotations.Zigzag (cond c annotations.Delta (cond d annotations.Limit annotations.Other))))
        ≡ made (s.varint || a) (s.zigzag || b) (s.delta || c) d
    go true true c d p q r t = absurd (clash sub 0 1 p q refl)
    go true false true d p q r t = absurd (clash sub 0 2 p r refl)
    go true false false true p q r t = absurd (clash sub 0 3 p t refl)
    go true false false false p q r t = λ i. made (true_or s.varint i) (or_none s.zigzag i) (or_none s.delta i) false
    go false true true d p q r t = absurd (clash sub 1 2 q r refl)
    go false true false true p q r t = absurd (clash sub 1 3 q t refl)
    go false true false false p q r t = λ i. made (or_none s.varint i) (true_or s.zigzag i) (or_none s.delta i) false
    go false false true true p q r t = absurd (clash sub 2 3 r t refl)
    go false false true false p q r t = λ i. made (or_none s.varint i) (or_none s.zigzag i) (true_or s.delta i) false
    go false false false true p q r t = λ i. made (or_none s.varint i) (or_none s.zigzag i) (or_none s.delta i) true
    go false false false false p q r t = λ i. made (or_none s.varint i) (or_none s.zigzag i) (or_none s.delta i) false

-- the limit that is found first
abbrev first_limit : Option ℕ → Maybe ℕ → Maybe ℕ
first_limit (Some n) later = some n
first_limit None later = later

-- t is what was seen when some notes more are seen than s
record Sees (ns : List Record) (s t : Annotations) : Type 0 where
  varint_is : t.varint ≡ s.varint || has_annotation 0 ns
  zigzag_is : t.zigzag ≡ s.zigzag || has_annotation 1 ns
  delta_is : t.delta ≡ s.delta || has_annotation 2 ns
  limit_is : limit_of t.limit ≡ first_limit s.limit (limit_in s.limiting ns)

sees_none : (s : Annotations) → Sees [] s s
unfolding any limit_in limit_of
sees_none s = record {
  varint_is = or_none s.varint;
  zigzag_is = or_none s.zigzag;
  delta_is = or_none s.delta;
  limit_is = go s.limit;
}
  where
    go : (l : Option ℕ) → limit_of l ≡ first_limit l none
    go (Some n) = refl
    go None = refl

-- a number among the values, by the sub
numeric : (sub : ℕ) → is_number (argument_from sub) ≡ ltb sub 2
numeric sub = go (eqb sub 0) (eqb sub 1) refl refl
  where
    go : (a b : Bool) → eqb sub 0 ≡ a → eqb sub 1 ≡ b
        → is_number (cond a arguments.Int (cond b arguments.Hex arguments.Other)) ≡ ltb sub 2
    go true b p q = let e : ltb sub 2 ≡ true = grind (arith, nat_tests) in sym e
    go false true p q = let e : ltb sub 2 ≡ true = grind (arith, nat_tests) in sym e
    go false false p q = let e : ltb sub 2 ≡ false = grind (arith, nat_tests) in sym e

-- a reference that is missing, by its number
missing : (n : ℕ) → is_none (reference n) ≡ eqb n 65535
missing n = go (eqb n 65535)
  where
    go : (b : Bool) → is_none (if b then None else Some n) ≡ b
    go true = refl
    go false = refl

-- one note more
module _ (rest : List Record) (f : Annotations → Annotations) (seen : (s : Annotations) → Sees rest s (f s))
    (s : Annotations) (r : Record) where
  -- a note that is no annotation and no argument
  sees_other : (k : ℕ) → eqb k 34 ≡ false → eqb k 35 ≡ false → Sees (with_kind k r ∷ rest) s (f s)
  unfolding any limit_in
  sees_other k p q = record {
    varint_is = (seen s).varint_is
        ∙ ap (λ (b : Bool). s.varint || (elim (b && eqb r.sub 0) [ true ↦ true | false ↦ has_annotation 0 rest ]))
        (sym p);
    zigzag_is = (seen s).zigzag_is
        ∙ ap (λ (b : Bool). s.zigzag || (elim (b && eqb r.sub 1) [ true ↦ true | false ↦ has_annotation 1 rest ]))
        (sym p);
    delta_is = (seen s).delta_is ∙ ap
        (λ (b : Bool). s.delta || (elim (b && eqb r.sub 2) [ true ↦ true | false ↦ has_annotation 2 rest ])) (sym p);
    limit_is = (seen s).limit_is ∙ ap (first_limit s.limit) (sym (no_limit s.limiting));
  }
    where
      no_limit : (b : Bool) → limit_in b (with_kind k r ∷ rest) ≡ limit_in b rest
      no_limit true = ap (λ (v : Bool). elim (v && ltb r.sub 2 && eqb r.a 65535) as (λ _. Maybe ℕ)
          [ true ↦ some r.v | false ↦ limit_in (cond (eqb k 34) (eqb r.sub 3) true) rest ]) q
          ∙ ap (λ (v : Bool). limit_in (cond v (eqb r.sub 3) true) rest) p
      no_limit false = ap (λ (v : Bool). limit_in (cond v (eqb r.sub 3) false) rest) p

  sees_annotation : Sees (with_kind 34 r ∷ rest) s (f (with_annotation s (annotation_from r.sub)))
  unfolding any limit_in
  sees_annotation =
      let s' : Annotations = with_annotation s (annotation_from r.sub) in
      let is = annotated s r.sub in
      record {
        varint_is = (seen s').varint_is ∙ ap (λ (x : Annotations). x.varint || has_annotation 0 rest) is
            ∙ or_more s.varint (eqb r.sub 0) (has_annotation 0 rest);
        zigzag_is = (seen s').zigzag_is ∙ ap (λ (x : Annotations). x.zigzag || has_annotation 1 rest) is
            ∙ or_more s.zigzag (eqb r.sub 1) (has_annotation 1 rest);
        delta_is = (seen s').delta_is ∙ ap (λ (x : Annotations). x.delta || has_annotation 2 rest) is
            ∙ or_more s.delta (eqb r.sub 2) (has_annotation 2 rest);
        limit_is = (seen s').limit_is ∙ ap (λ (x : Annotations). first_limit x.limit (limit_in x.limiting rest)) is
            ∙ ap (first_limit s.limit) (sym (no_limit s.limiting));
      }
    where
      no_limit : (b : Bool) → limit_in b (with_kind 34 r ∷ rest) ≡ limit_in (eqb r.sub 3) rest
      no_limit true = refl
      no_limit false = refl

  sees_argument : Sees (with_kind 35 r ∷ rest) s (f (with_argument s (with_kind 35 r)))
  unfolding any limit_in
  sees_argument =
      let s' : Annotations = with_argument s (with_kind 35 r) in
      let c : Bool = s.limiting && is_none s.limit && ltb r.sub 2 && eqb r.a 65535 in
      let is : s' ≡ record s { limit = cond c (Some r.v) s.limit } =
      (λ i. cond (s.limiting && is_none s.limit && numeric r.sub i && missing r.a i) (record s { limit = Some r.v }) s)
      ∙ kept c in
      record {
        varint_is = (seen s').varint_is ∙ ap (λ (x : Annotations). x.varint || has_annotation 0 rest) is;
        zigzag_is = (seen s').zigzag_is ∙ ap (λ (x : Annotations). x.zigzag || has_annotation 1 rest) is;
        delta_is = (seen s').delta_is ∙ ap (λ (x : Annotations). x.delta || has_annotation 2 rest) is;
        limit_is =
            (seen s').limit_is ∙ ap (λ (x : Annotations). first_limit x.limit (limit_in x.limiting rest)) is
            ∙ found s.limiting s.limit (ltb r.sub 2) (eqb r.a 65535) (limit_in s.limiting rest);
      }
    where
      kept : (c : Bool) → cond c (record s { limit = Some r.v }) s ≡ record s { limit = cond c (Some r.v) s.limit }
      kept true = refl
      kept false = refl

      found : (b : Bool) (l : Option ℕ) (p q : Bool) (m : Maybe ℕ)
          → first_limit (cond (b && is_none l && p && q) (Some r.v) l) m
          ≡ first_limit l (elim (b && (p && q)) [ true ↦ some r.v | false ↦ m ])
      found true None true true m = refl
      found true None true false m = refl
      found true None false q m = refl
      found true (Some n) p q m = refl
      found false l p q m = refl

  Here : ℕ → Type 0
  Here k = Sees (cond (one_of (30 ∷ 34 ∷ 35 ∷ 36 ∷ []) k) (with_kind k r ∷ rest) []) s
      (code.seen_by (kind_from k) (with_kind k r) s f)

  sees_one : Note r.kind → Here r.kind
  unfolding Here any kind_from
  sees_one (an_annotation e) = subst Here (sym e) sees_annotation
  sees_one (an_argument e) = subst Here (sym e) sees_argument
  sees_one (a_parameter e) = subst Here (sym e) (sees_other 30 refl refl)
  sees_one (a_reason e) = subst Here (sym e) (sees_other 36 refl refl)
  sees_one (no_note e seen strings) =
      subst (λ (t : Annotations). Sees (cond (one_of (30 ∷ 34 ∷ 35 ∷ 36 ∷ []) r.kind) (r ∷ rest) []) s t)
      (sym (seen r s f))
      (subst (λ (b : Bool). Sees (cond b (r ∷ rest) []) s s) (sym e) (sees_none s))

sees_behind : (book : Book) (ms : List ℕ) (s : Annotations) → Sees (notes_among book ms) s (code.seen_behind book ms s)
unfolding code.seen_behind keep_while Here
sees_behind book [] s = sees_none s
sees_behind book (m ∷ ms) s =
    sees_one (notes_among book ms) (λ t. code.seen_behind book ms t) (λ t. sees_behind book ms t) s (book ! m)
    (note_of (book ! m).kind)

-- strings
module _ (key : ℕ) where
  abbrev is_string : Record → Bool
  is_string r = is_kind 36 r && eqb r.sub key && not (eqb r.a 65535)

  string_none : 65535 ≡ first_string key []
  unfolding first_string find
  string_none = refl

  string_here : (r : Record) (rest : List Record) → is_string r ≡ true → r.a ≡ first_string key (r ∷ rest)
  unfolding first_string find
  string_here r rest e = rw (first_string, find, e)

  string_on : (r : Record) (rest : List Record) → is_string r ≡ false
      → first_string key (r ∷ rest) ≡ first_string key rest
  unfolding first_string find
  string_on r rest e = rw (first_string, find, e)

  module _ (rest : List Record) (later : Option ℕ) (same : reference_number later ≡ first_string key rest)
      (r : Record) where
    Told : ℕ → Type 0
    Told k = reference_number (code.string_by (kind_from k) key (with_kind k r) later)
        ≡ first_string key (cond (one_of (30 ∷ 34 ∷ 35 ∷ 36 ∷ []) k) (with_kind k r ∷ rest) [])

    a_string : (p q : Bool) → eqb r.sub key ≡ p → eqb r.a 65535 ≡ q
        → reference_number (if p then code.or_later (if q then None else Some r.a) later else later)
        ≡ first_string key (with_kind 36 r ∷ rest)
    a_string true true e f = same ∙ sym (string_on (with_kind 36 r) rest (λ i. e i && not (f i)))
    a_string true false e f = string_here (with_kind 36 r) rest (λ i. e i && not (f i))
    a_string false q e f = same ∙ sym (string_on (with_kind 36 r) rest (λ i. e i && not (eqb r.a 65535)))

    string_one : Note r.kind → Told r.kind
    unfolding Told any kind_from
    string_one (an_annotation e) = subst Told (sym e) (same ∙ sym (string_on (with_kind 34 r) rest refl))
    string_one (an_argument e) = subst Told (sym e) (same ∙ sym (string_on (with_kind 35 r) rest refl))
    string_one (a_parameter e) = subst Told (sym e) (same ∙ sym (string_on (with_kind 30 r) rest refl))
    string_one (a_reason e) = subst Told (sym e) (a_string (eqb r.sub key) (eqb r.a 65535) refl refl)
    string_one (no_note e seen strings) =
        ap reference_number (strings key r later) ∙ string_none ∙ ap (λ (b : Bool). first_string key (cond b (r ∷ rest) [])) (sym e)

  pub strings_behind : (book : Book) (ms : List ℕ)
      → reference_number (code.first_string book key ms) ≡ first_string key (notes_among book ms)
  unfolding code.first_string keep_while Told
  strings_behind book [] = string_none
  strings_behind book (m ∷ ms) =
      string_one (notes_among book ms) (code.first_string book key ms) (strings_behind book ms) (book ! m)
      (note_of (book ! m).kind)

-- the delta and the encoding that the notes say
pub delta_seen : (book : Book) (ms : List ℕ)
    → (code.seen_behind book ms no_annotations).delta ≡ has_annotation 2 (notes_among book ms)
delta_seen book ms = (sees_behind book ms no_annotations).delta_is

pub encoding_seen : (book : Book) (ms : List ℕ)
    → field_encoding_of (encoded (code.seen_behind book ms no_annotations))
    ≡ compute_field_encoding (notes_among book ms)
unfolding compute_field_encoding encoding_of
encoding_seen book ms =
    let h : Sees (notes_among book ms) no_annotations (code.seen_behind book ms no_annotations) =
    sees_behind book ms no_annotations in
    λ i. record {
      encoding = (named (code.seen_behind book ms no_annotations).varint
          (code.seen_behind book ms no_annotations).zigzag
          ∙ ap (λ (b : Bool). cond b varint (cond (code.seen_behind book ms no_annotations).zigzag zigzag default))
          h.varint_is ∙ ap (λ (b : Bool). cond (has_annotation 0 (notes_among book ms)) varint (cond b zigzag default))
          h.zigzag_is) i;
      delta = h.delta_is i;
      limit = h.limit_is i;
    }
  where
    named : (a b : Bool) → encoding_of (cond a codes.Varint (cond b codes.Zigzag codes.Default))
        ≡ cond a varint (cond b zigzag default)
    named true b = refl
    named false true = refl
    named false false = refl

-- what a message's delta does with a field, by the root of its type
inner_same : (n : ℕ) (t : ResolvedType) → inner_at (Some (root_record n t)) ≡ delta_inner t
unfolding root_record delta_inner kind_from
inner_same n (primitive p) = refl
inner_same n (sub_byte p bits) = refl
inner_same n (semantic p) = refl
inner_same n (named k) = refl
inner_same n (one_child p size t) = refl
inner_same n (two_children p l r) = refl
inner_same n (inline_bits k) = refl

pub delta_same : (delta : Bool) (n : ℕ) (t : ResolvedType) (e : FieldEncoding)
    → under_root delta (Some (root_record n t)) e ≡ under_delta delta t e
unfolding under_delta
delta_same delta n t e = ap (λ (i : Inner). under_inner delta i e) (inner_same n t)
