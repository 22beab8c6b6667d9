-- Values by name and reached constants, as the code keeps them.
-- Assumes nothing.
use Rattle.std.specs.Prelude.{ℕ, ◌+◌, ◌≤◌, ◌<◌, List, [], ◌∷◌, ◌++◌, take, length, set, get_or, slice_get, ◌≡◌, ℤ, Option as Answer, Some, None}
use Rattle.std.proofs.Common.{refl, sym, ap, ◌∙◌, arith, add-one, replicate, length-take}
use Rattle.std.proofs.Math.Seq.{take-suc-set}
use Rattle.std.proofs.lemmas.Option.{slice_get-get_or}
use Rattle.std.proofs.Math.Option.{Option, none}
use borrow.Author.Tests.{lt-ltb, le-ltb}
use Rattle.arith.specs.Checked.{answer}
use Rattle.constants.specs.Given.{table_in, answered, pushed}
use Rattle.constants.proofs.Working.{all_alike}

pub none_before : (most n : ℕ) → table_in (replicate most None) n ≡ none
unfolding table_in
none_before most n = ap answer (all_alike {A = Answer ℤ} most None n)

pub pushed-room : {A : Type 0} (most : ℕ) (l : List A) (x : A) → length l < most → pushed most l x ≡ l ++ (x ∷ [])
unfolding pushed
pushed-room most l x room = rw (lt-ltb (length l) most room) refl

pub pushed-full : {A : Type 0} (most : ℕ) (l : List A) (x : A) → most ≤ length l → pushed most l x ≡ l
unfolding pushed
pushed-full most l x full = rw (le-ltb (length l) most full) refl

-- so of the front of an array
pub front-room :
    {A : Type 0} (most count : ℕ) (l : List A) (x : A) → length l ≡ most → count < most → take (count + 1) (set l count x) ≡ pushed most (take count l) x
unfolding pushed
front-room most count l x long room =
    rw (lt-ltb (length (take count l)) most (omega (arith, length-take count l)), add-one count) (take-suc-set l count x (omega arith))

pub front-full :
    {A : Type 0} (most count : ℕ) (l : List A) (x : A) → length l ≡ most → count ≤ length l → most ≤ count → take count l ≡ pushed most (take count l) x
front-full most count l x long few full = sym (pushed-full most (take count l) x (omega (arith, length-take count l)))

pub ruleset pushes = (front-room, front-full)

-- an entry that is there
pub slice_get-there : {A : Type 0} (l : List A) (i : ℕ) (x : A) → i < length l → get_or l i x ≡ x → slice_get l i ≡ Some x
slice_get-there l i x less e = slice_get-get_or l i x less ∙ ap Some e

pub ruleset reads = (slice_get-there, slice_get-get_or)

-- an answer of the code is the one for what it says
pub answered-answer : (r : Answer ℤ) (o : Option ℤ) → answer r ≡ o → answered o ≡ r
answered-answer (Some z) o e = ap answered (sym e)
answered-answer None o e = ap answered (sym e)

pub ruleset answers = (answered-answer)
