-- A book, with tables of a size that its names have room in, is lowered as the definitions say.
-- Assumes nothing.
use Rattle.std.proofs.Common.{◌≡◌, ℕ, ◌≤◌, true, List, [], length, refl, ap}
use Rattle.std.specs.Prelude.{is_some}
use Rattle.std.proofs.lemmas.List.{length-map}
use Rattle.book.specs.Lists.{find}
use Rattle.book.specs.Faults.{is_declaration}
use Rattle.book.specs.Noted.{is_outside}
use Rattle.book.specs.Outline.{Book, ◌!◌, numbers_of}
use Rattle.book.specs.Accepted.{IsRead}
use Rattle.constants.specs.OfBook.{settled}
use Rattle.constants.specs.Given.{told, answered}
use Rattle.types.specs.Lowering.{State}
use Rattle.types.specs.Resolved.{ResolvedType, Names, alias_of, entry}
use Rattle.types.specs.Step.{for_each}
use Rattle.types.specs.Numbers.{plain_aliases}
use Rattle.types.specs.Alias as reader
use Rattle.types.specs.Below.{names_below}
use Rattle.types.specs.Stands.{Lent, Stands, Does}
use Rattle.types.specs.PlainAliases.{lower_aliases}
use Rattle.types.specs.Code as code
use Rattle.types.proofs.Begun.{begun}
use Rattle.types.proofs.Declared.{plain_distinct}
use Rattle.types.proofs.PlainAliases.{does_aliases}
use Rattle.bodies.specs.Constant.{stored_count}
use Rattle.bodies.specs.Code.{lower_constants, lower_bodies}
use Rattle.bodies.proofs.Agreeing.{lowers_as_defined}
use Rattle.lower.specs.declared.Counted.{Counted}
use Rattle.lower.specs.Inside.{evaluated, lower_parts, lower_whole, valued, Replies}
use Rattle.lower.specs.Ended.{LowersRead}
use Rattle.lower.proofs.Counting.{counts_stored, few_settled}
use Rattle.lower.proofs.Ending.{lowers_read}

-- the reached constants that have a value are those that are stored
stored_are : (book : Book) → valued (evaluated book) ≡ stored_count (settled book)
unfolding evaluated
stored_are book =
    counts_stored told (λ c. is_some c.value)
    (λ c e. ap (λ o. is_some (answered o)) e)
    (λ c z e. ap (λ o. is_some (answered o)) e)
    (settled book)

-- and there are no more than records
pub few_evaluated : (book : Book) → length (evaluated book) ≤ length book.records
unfolding evaluated
few_evaluated book = rw (length-map (settled book) told) (few_settled book)

module _ (book : Book) (is : IsRead book) where
  -- no plain alias is lowered at the start
  aliases_do :
      (lent : Lent) (c : code.State) (k : Names) (s : State) → k.aliases ≡ [] → Stands lent book c k s →
      Does lent book (λ (n a : Unit {0}) k rs. Unit {0}) (lower_aliases (numbers_of is_declaration book) c)
      (for_each (reader.lower_alias book) (plain_aliases book)) k s
  unfolding alias_of entry find
  aliases_do lent c k s nothing st =
      does_aliases lent book c k s st (plain_distinct book is) (λ n among. ap (λ (l : List
      (ℕ × ResolvedType)). entry (book ! n).a l) nothing)

  pub whole_read :
      (n room : ℕ) (results diagnostics : List ℕ) {c : Counted} {r' d' : List ℕ} → names_below n book.records ≡ true →
      length book.records ≤ room →
      Replies (lower_whole n room book results diagnostics) (valued (evaluated book)) c r' d'
      → LowersRead book results diagnostics c r' d'
  unfolding lower_whole lower_parts evaluated
  whole_read n room results diagnostics {c} {r'} {d'} low held x =
      lowers_read results diagnostics (begun book is n room low held)
      (λ s. lower_aliases (numbers_of is_declaration book) s) (λ s. lower_constants (evaluated book) s)
      (λ s. lower_bodies (numbers_of is_outside book) s)
      (λ n a k rs. Unit {0}) (λ n a k rs. Unit {0})
      aliases_do
      (lowers_as_defined book is.well_formed (settled book))
      (valued (evaluated book)) (lower_whole n room book results diagnostics).answer _ _ c r' d'
      (stored_are book) refl refl refl x.reply x.results_are x.diagnostics_are
