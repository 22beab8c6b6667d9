-- The rows of a message's delta, and the record of an encoding, as the code has them.
use Rattle.std.proofs.Common.{◌≡◌, ℕ, ◌≤◌, Bool, true, false, cond, List, get_or, map, refl, sym, ap, ◌∙◌, Option}
use Rattle.std.proofs.Common.{Some, None}
use Rattle.std.proofs.Math.ListN.{get_or-map}
use Rattle.std.proofs.lemmas.List.{get_or_past}
use Rattle.record.specs.declared.kind.Kind.TheVariants.{Encoding as encoding_kind}
use Rattle.record.specs.Made.{bare_record}
use Rattle.bodies.specs.declared.encoding.TheConstants.{DELTA}
use Rattle.bodies.specs.declared.encoding.Encoding as codes
use Rattle.bodies.specs.declared.encoding.Inner.TheVariants.{NotEligible}
use Rattle.bodies.specs.declared.encoding.FieldEncoding.{FieldEncoding}
use Rattle.bodies.specs.Encoding.{Inner, not_eligible, delta_rows, encoding_number, encoding_record}
use Rattle.bodies.specs.Annotated.{encoding_of, inner_of, limit_of, field_encoding_of}

rows_are : map inner_of DELTA ≡ delta_rows
unfolding encoding_of delta_rows
rows_are = refl

-- a row of the table
pub row_in : (code : ℕ) → get_or delta_rows code not_eligible ≡ inner_of (get_or DELTA code NotEligible)
row_in code = ap (λ (l : List Inner). get_or l code not_eligible) (sym rows_are)
    ∙ get_or-map inner_of DELTA code NotEligible

-- and none
pub row_past : (code : ℕ) → 14 ≤ code → get_or delta_rows code not_eligible ≡ inner_of NotEligible
row_past code past = row_in code ∙ ap inner_of (get_or_past DELTA code NotEligible past)

-- the record of an encoding with a limit
limited : (n : codes.Encoding) (d : Bool) (limit : ℕ)
    → encoding_record (field_encoding_of (record { encoding = n; delta = d; limit = Some limit }))
    ≡ bare_record encoding_kind (encoding_number (encoding_of n)) (cond d 1 0) 1 limit
unfolding encoding_record limit_of
limited n true limit = refl
limited n false limit = refl

pub with_a_limit : (e : FieldEncoding) (limit : ℕ) → e.limit ≡ Some limit
    → encoding_record (field_encoding_of e)
    ≡ bare_record encoding_kind (encoding_number (encoding_of e.encoding)) (cond e.delta 1 0) 1 limit
with_a_limit e limit h =
    let made : Option ℕ → FieldEncoding = λ l. record { encoding = e.encoding; delta = e.delta; limit = l } in
    ap (λ (l : Option ℕ). encoding_record (field_encoding_of (made l))) h ∙ limited e.encoding e.delta limit

-- and of one without
unlimited : (n : codes.Encoding) (d : Bool)
    → encoding_record (field_encoding_of (record { encoding = n; delta = d; limit = None }))
    ≡ bare_record encoding_kind (encoding_number (encoding_of n)) (cond d 1 0) 0 0
unfolding encoding_record limit_of
unlimited n true = refl
unlimited n false = refl

pub with_no_limit : (e : FieldEncoding) → e.limit ≡ None
    → encoding_record (field_encoding_of e)
    ≡ bare_record encoding_kind (encoding_number (encoding_of e.encoding)) (cond e.delta 1 0) 0 0
with_no_limit e h =
    let made : Option ℕ → FieldEncoding = λ l. record { encoding = e.encoding; delta = e.delta; limit = l } in
    ap (λ (l : Option ℕ). encoding_record (field_encoding_of (made l))) h ∙ unlimited e.encoding e.delta

pub ruleset rows = (row_in, row_past, with_a_limit, with_no_limit)
