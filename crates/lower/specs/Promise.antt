-- The promises of `lower_book` and of the exported function, and what the answer of the code says.
-- Assumes nothing.
use Rattle.std.specs.Prelude.{ℕ, List, [], ◌∷◌, ◌≡◌, Result, Ok, Err}
use Rattle.record.specs.Refused.{number_of}
use Rattle.record.specs.declared.refusal.Refusal.{Refusal}
use Rattle.lower.specs.declared.Counts.{Counts}
use Rattle.lower.specs.LowerBook.{Reply, accepted, refused, Outcome, lower_book}

-- what the code answers: three counts, or why and where the book is turned back
abbrev pub Answered : Type 0
Answered = Result Counts Refusal

-- the reply: the counts of results, diagnostics and stored constants, or the number of the cause and the place
unfoldable pub reply_of : Answered → Reply
reply_of (Ok counts) = accepted counts.results counts.diagnostics counts.constants
reply_of (Err refusal) = refused (number_of refusal.cause) refusal.place

-- what was answered, and what the two slices hold then
abbrev pub outcome_of : Answered → List ℕ → List ℕ → Outcome
outcome_of reply results diagnostics = record { reply = reply_of reply; results = results; diagnostics = diagnostics }

-- THE PROMISE of `lower_book`, for every book and every two slices: the reply and both slices at exit are what
-- `lower_book` gives for the book and the slices as lent
abbrev pub Lowered : List ℕ → List ℕ → List ℕ → Answered → List ℕ → List ℕ → Type 0
Lowered book results diagnostics reply results' diagnostics' =
    outcome_of reply results' diagnostics' ≡ lower_book book results diagnostics

-- a reply as four numbers: 0 and the three counts, or the number of the cause, the place and zeros
unfoldable pub reply_words : Reply → List ℕ
reply_words (accepted results diagnostics constants) = 0 ∷ results ∷ diagnostics ∷ constants ∷ []
reply_words (refused cause place) = cause ∷ place ∷ 0 ∷ 0 ∷ []

-- the promise of `signal_book_lower`: the same with the reply in four words
pub record Exported (book results diagnostics reply results' diagnostics' : List ℕ) : Type 0 where
  pub reply_is : reply ≡ reply_words (lower_book book results diagnostics).reply
  pub results_are : results' ≡ (lower_book book results diagnostics).results
  pub diagnostics_are : diagnostics' ≡ (lower_book book results diagnostics).diagnostics
