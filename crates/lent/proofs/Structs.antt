-- Structs as bytes: those of records, of zero ones, and a front of some before the rest of others; structs read from
-- bytes.
-- Assumes nothing.
use Prim.Native.Nat.{ℕ, zero, suc, ◌+◌, ◌*◌, ◌-◌, ◌^◌, ◌≤◌, ◌<◌}
use mathlib.Core.List.{List, [], ◌∷◌, ◌++◌, flat_map, map, map-append, append_assoc, append-nil}
use mathlib.Core.Path.{◌≡◌, refl, sym, ap, ap₂, ◌∙◌}
use native.Mathlib.Omega.{arith}
use native.Mathlib.Numerals.{add-one}
use lib.Dec.{lit<}
use lib.ListN.{length, drop, replicate, set, length-map, length-replicate, replicate-append-replicate}
use lib.Seq.{drop-nil, drop_at, drop-drop, set_at}
use Rattle.record.specs.declared.Record.{Record}
use Rattle.record.specs.Bytes.{little_bytes}
use Rattle.record.specs.Layout.{Within, decode_record, encode_record}
use Rattle.record.specs.Write.{with_records, cleared}
use Rattle.record.proofs.Trips.{encode_length}
use Rattle.record.proofs.Fronts.{encoded_length}
use Rattle.book.specs.Lists.{All, up_to, from}
use Rattle.book.proofs.Lists.{from-length}
use Rattle.book.proofs.Marks.{up_to_last}
use Rattle.types.specs.Diagnostic.{IsDiagnostic}
use Rattle.lower.specs.Laws.{first_records}
use Rattle.lower.proofs.Slices.{read_back}
use Rattle.types.specs.declared.diagnostic.ErrorClass.{ErrorClass}
use Rattle.types.specs.declared.diagnostic.ErrorClass.TheVariants.{UnresolvedType, AliasTargetNotFound, ConstRefNotFound}
use Rattle.lent.specs.declared.Diagnostic.{Diagnostic}
use Rattle.lent.specs.Laws.{Fits, BytesTellStructs}
use Rattle.types.specs.Messages.{class_number, class_of}
use Rattle.lent.specs.Diagnostics.{diagnostic_of, record_of, encoded, no_diagnostic}

-- bytes of records, in two parts and from one of them on
bytes_append : (rs ss : List Record) → flat_map encode_record (rs ++ ss) ≡ flat_map encode_record rs ++ flat_map encode_record ss
unfolding flat_map
bytes_append [] ss = refl
bytes_append (r ∷ rs) ss =
    ap (λ l. encode_record r ++ l) (bytes_append rs ss) ∙ sym (append_assoc (encode_record r) (flat_map encode_record rs) (flat_map encode_record ss))

bytes_drop : (n : ℕ) (rs : List Record) → flat_map encode_record (drop n rs) ≡ drop (24 * n) (flat_map encode_record rs)
unfolding flat_map
bytes_drop zero rs = refl
bytes_drop (suc n) [] = sym (drop-nil (24 * suc n))
bytes_drop (suc n) (r ∷ rs) =
    let step : 24 + 24 * n ≡ 24 * suc n = omega arith in
    bytes_drop n rs
    ∙ ap (drop (24 * n)) (sym (drop_at (encode_record r) (flat_map encode_record rs) 24 (encode_length r)))
    ∙ drop-drop (24 * n) 24 (encode_record r ++ flat_map encode_record rs)
    ∙ ap (λ (m : ℕ). drop m (encode_record r ++ flat_map encode_record rs)) step

map-drop : (n : ℕ) (ds : List Diagnostic) → map record_of (drop n ds) ≡ drop n (map record_of ds)
map-drop zero ds = refl
map-drop (suc n) [] = refl
map-drop (suc n) (d ∷ ds) = map-drop n ds

pub structs_length : (ds : List Diagnostic) → length (encoded ds) ≡ 24 * length ds
unfolding encoded
structs_length ds = encoded_length (map record_of ds) ∙ ap (λ (n : ℕ). 24 * n) (length-map ds record_of)

-- some at the front, then the rest of others
pub front_bytes :
    (front ds : List Diagnostic) → encoded (front ++ drop (length front) ds) ≡ flat_map encode_record (map record_of front) ++ drop (24 * length front) (encoded ds)
unfolding encoded
front_bytes front ds =
    ap (flat_map encode_record) (map-append record_of front (drop (length front) ds))
    ∙ bytes_append (map record_of front) (map record_of (drop (length front) ds))
    ∙ ap (λ l. flat_map encode_record (map record_of front) ++ l)
    (ap (flat_map encode_record) (map-drop (length front) ds) ∙ bytes_drop (length front) (map record_of ds))

-- a diagnostic record is the one that its struct stands for
class_back : (n : ℕ) → n ≤ 2 → class_number (class_of n) ≡ n
class_back zero h = refl
class_back (suc zero) h = refl
class_back (suc (suc zero)) h = refl
class_back (suc (suc (suc n))) h = absurd (omega arith)

record_back : (r : Record) → IsDiagnostic r → record_of (diagnostic_of r) ≡ r
unfolding record_of diagnostic_of
record_back r is =
    λ i.
    record {
      kind = r.kind;
      sub = r.sub;
      a = r.a;
      b = r.b;
      c = sym is.unused i;
      v = class_back r.v is.class i;
      span = r.span;
    }

records_back : (rs : List Record) → All IsDiagnostic rs → map record_of (map diagnostic_of rs) ≡ rs
records_back [] h = refl
records_back (r ∷ rs) h = ap₂ ◌∷◌ (record_back r h.0) (records_back rs h.1)

-- the structs of some diagnostics, before the rest of others
pub told_bytes :
    (rs : List Record) (ds : List Diagnostic) → All IsDiagnostic rs →
    encoded (map diagnostic_of rs ++ drop (length (map diagnostic_of rs)) ds) ≡ with_records rs (encoded ds)
unfolding with_records
told_bytes rs ds h =
    front_bytes (map diagnostic_of rs) ds
    ∙ ap₂ (λ (l : List Record) (n : ℕ). flat_map encode_record l ++ drop (24 * n) (encoded ds)) (records_back rs h) (length-map rs diagnostic_of)

-- the zero one is 24 zeros
zero_bytes : (n : ℕ) → flat_map encode_record (map record_of (replicate n no_diagnostic)) ≡ replicate (24 * n) 0
unfolding flat_map encode_record record_of little_bytes
zero_bytes zero = refl
zero_bytes (suc n) =
    let step : 24 + 24 * n ≡ 24 * suc n = omega arith in
    ap (λ l. replicate 24 0 ++ l) (zero_bytes n)
    ∙ replicate-append-replicate 24 (24 * n) 0
    ∙ ap (λ (m : ℕ). replicate m 0) step

-- zero ones before the rest of others
pub cleared_bytes :
    (n : ℕ) (ds : List Diagnostic) →
    encoded (replicate n no_diagnostic ++ drop (length (replicate n no_diagnostic)) ds) ≡ cleared n (encoded ds)
unfolding cleared
cleared_bytes n ds =
    front_bytes (replicate n no_diagnostic) ds
    ∙ ap₂ (λ (l : List ℕ) (m : ℕ). l ++ drop (24 * m) (encoded ds)) (zero_bytes n) (length-replicate n no_diagnostic)

-- a struct's record is within its widths where the struct is, so the bytes of structs tell them
record-within : (d : Diagnostic) → Fits d → Within (record_of d)
unfolding record_of
record-within d f =
    record {
      kind = f.kind;
      sub = f.message;
      a = f.name;
      b = f.member;
      c = lit< tt;
      v = by d.class;
      offset = f.offset;
      len = f.len;
    }
  where
    by : (c : ErrorClass) → class_number c < 2 ^ 64
    by UnresolvedType = lit< tt
    by AliasTargetNotFound = lit< tt
    by ConstRefNotFound = lit< tt

struct_back : (d : Diagnostic) → diagnostic_of (record_of d) ≡ d
unfolding record_of diagnostic_of
struct_back d =
    λ i.
    record {
      kind = d.kind;
      message = d.message;
      name = d.name;
      member = d.member;
      class = by d.class i;
      span = d.span;
    }
  where
    by : (c : ErrorClass) → class_of (class_number c) ≡ c
    by UnresolvedType = refl
    by AliasTargetNotFound = refl
    by ConstRefNotFound = refl

structs_back : (ds : List Diagnostic) → map diagnostic_of (map record_of ds) ≡ ds
structs_back [] = refl
structs_back (d ∷ ds) = ap₂ ◌∷◌ (struct_back d) (structs_back ds)

all-within : (ds : List Diagnostic) → All Fits ds → All Within (map record_of ds)
all-within [] h = tt
all-within (d ∷ ds) h = (record-within d h.0, all-within ds h.1)

read_structs : (ds : List Diagnostic) → All Fits ds → map diagnostic_of (first_records (length (map record_of ds)) (encoded ds)) ≡ ds
unfolding encoded with_records
read_structs ds h =
    ap (λ (l : List ℕ). map diagnostic_of (first_records (length (map record_of ds)) l))
    (sym (append-nil (flat_map encode_record (map record_of ds)))
    ∙ ap (λ (l : List ℕ). flat_map encode_record (map record_of ds) ++ l) (sym (drop-nil (24 * length (map record_of ds)))))
    ∙ ap (map diagnostic_of) (read_back (map record_of ds) [] (all-within ds h))
    ∙ structs_back ds

pub bytes_tell_structs : BytesTellStructs
bytes_tell_structs ds es f g e =
    let long = structs_length ds in
    let long' = structs_length es in
    let same : length ds ≡ length es = omega (arith, ap (λ (l : List ℕ). length l) e) in
    let same' : length (map record_of ds) ≡ length (map record_of es) = length-map ds record_of ∙ same ∙ sym (length-map es record_of) in
    sym (read_structs ds f)
    ∙ ap₂ (λ (n : ℕ) (l : List ℕ). map diagnostic_of (first_records n l)) same' e
    ∙ read_structs es g

-- what is read of cleared bytes are zero ones
zero_fits : Fits no_diagnostic
zero_fits = record { kind = lit< tt; message = lit< tt; name = lit< tt; member = lit< tt; offset = lit< tt; len = lit< tt }

zeros_fit : (n : ℕ) → All Fits (replicate n no_diagnostic)
zeros_fit zero = tt
zeros_fit (suc n) = (zero_fits, zeros_fit n)

pub read_cleared : (n : ℕ) (bytes : List ℕ) → map diagnostic_of (first_records n (cleared n bytes)) ≡ replicate n no_diagnostic
unfolding cleared with_records
read_cleared n bytes =
    let rs = map record_of (replicate n no_diagnostic) in
    let long : length rs ≡ n = length-map (replicate n no_diagnostic) record_of ∙ length-replicate n no_diagnostic in
    let as_records : with_records rs bytes ≡ replicate (24 * n) 0 ++ drop (24 * n) bytes = rw (zero_bytes n, long) in
    ap₂ (λ (m : ℕ) (l : List ℕ). map diagnostic_of (first_records m l)) (sym long) (sym as_records)
    ∙ ap (map diagnostic_of) (read_back rs bytes (all-within (replicate n no_diagnostic) (zeros_fit n)))
    ∙ structs_back (replicate n no_diagnostic)

-- one record more is read, in the place of a zero one
module _ (bytes : List ℕ) where
  abbrev pub struct_at : ℕ → Diagnostic
  struct_at k = diagnostic_of (decode_record (drop (24 * k) bytes))

  abbrev pub read_up_to : ℕ → List Diagnostic
  read_up_to k = map diagnostic_of (first_records k bytes)

  pub read_length : (k : ℕ) → length (read_up_to k) ≡ k
  unfolding first_records
  read_length k = length-map (first_records k bytes) diagnostic_of ∙ length-map (up_to k) _ ∙ from-length 0 k

  one_more_lem : (k : ℕ) → read_up_to (suc k) ≡ read_up_to k ++ (struct_at k ∷ [])
  unfolding first_records
  one_more_lem k =
      ap (λ (l : List ℕ). map diagnostic_of (map (λ i. decode_record (drop (24 * i) bytes)) l)) (up_to_last k)
      ∙ ap (map diagnostic_of) (map-append _ (up_to k) (k ∷ []))
      ∙ map-append diagnostic_of (map (λ i. decode_record (drop (24 * i) bytes)) (up_to k)) (decode_record (drop (24 * k) bytes) ∷ [])

  -- none at first, and one more
  pub read_none : read_up_to 0 ≡ []
  unfolding first_records from
  read_none = refl

  pub read_more : (k : ℕ) → read_up_to k ++ (struct_at k ∷ []) ≡ read_up_to (k + 1)
  read_more k = sym (one_more_lem k) ∙ ap read_up_to (sym (add-one k))

  -- with zero ones behind them, up to 256 or any m
  pub read_first : replicate 256 no_diagnostic ≡ read_up_to 0 ++ replicate (256 - 0) no_diagnostic
  read_first = ap (λ (l : List Diagnostic). l ++ replicate 256 no_diagnostic) (sym read_none)

  pub read_next :
      (m k : ℕ) → k < m →
      set (read_up_to k ++ replicate (m - k) no_diagnostic) k (struct_at k) ≡ read_up_to (k + 1) ++ replicate (m - (k + 1)) no_diagnostic
  read_next m k less =
      let one : m - k ≡ suc (m - (k + 1)) = omega arith in
      ap (λ (n : ℕ). set (read_up_to k ++ replicate n no_diagnostic) k (struct_at k)) one
      ∙ set_at (read_up_to k) no_diagnostic (replicate (m - (k + 1)) no_diagnostic) (struct_at k) k (read_length k)
      ∙ sym (append_assoc (read_up_to k) (struct_at k ∷ []) (replicate (m - (k + 1)) no_diagnostic))
      ∙ ap (λ (l : List Diagnostic). l ++ replicate (m - (k + 1)) no_diagnostic) (read_more k)

pub ruleset reading = (read_first, read_next)
