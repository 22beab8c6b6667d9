-- One step of registering declarations, and of looking for a type parameter.
-- Assumes nothing.
use Rattle.std.proofs.Common.{◌≡◌, ℕ, ◌+◌, ◌<◌, ◌≤◌, List, length, get_or, drop, None, if◌then◌else◌}
use Rattle.std.proofs.lemmas.List.{at_drop_more, at_drop_all}
use Rattle.record.specs.Kind.{kind_from}
use Rattle.book.specs.Faults.{record_of}
use Rattle.book.specs.Outline.{Book, ◌!◌}
use Rattle.types.specs.Tables.{Tables}
use Rattle.types.specs.Registry.{with_type, with_types, with_alias, with_aliases, parameter_behind, parameter_in, is_passed_over, parameter_of}

pub with_types-more : (book : Book) (ns : List ℕ) (i : ℕ) (s : Tables) → i < length ns
    → with_types book (drop i ns) s
    ≡ with_types book (drop (i + 1) ns) (with_type (book ! get_or ns i 0) (kind_from (book ! get_or ns i 0).kind) s)
unfolding with_types
with_types-more book ns i s h = at_drop_more (λ l. with_types book l s) ns i 0 h

pub with_types-done : (book : Book) (ns : List ℕ) (i : ℕ) (s : Tables) → length ns ≤ i → with_types book (drop i ns) s ≡ s
unfolding with_types
with_types-done book ns i s h = at_drop_all (λ l. with_types book l s) ns i h

pub with_aliases-more : (book : Book) (ns : List ℕ) (i : ℕ) (s : Tables) → i < length ns
    → with_aliases book (drop i ns) s
    ≡ with_aliases book (drop (i + 1) ns)
    (with_alias (book ! get_or ns i 0) (kind_from (book ! get_or ns i 0).kind) (parameter_behind book (get_or ns i 0)) s)
unfolding with_aliases
with_aliases-more book ns i s h = at_drop_more (λ l. with_aliases book l s) ns i 0 h

pub with_aliases-done : (book : Book) (ns : List ℕ) (i : ℕ) (s : Tables) → length ns ≤ i → with_aliases book (drop i ns) s ≡ s
unfolding with_aliases
with_aliases-done book ns i s h = at_drop_all (λ l. with_aliases book l s) ns i h

pub parameter_in-more : (book : Book) (i : ℕ) → i < length book.records
    → parameter_in (drop i book.records)
    ≡ (if is_passed_over (book ! i) (kind_from (book ! i).kind) then parameter_in (drop (i + 1) book.records)
    else parameter_of (book ! i) (kind_from (book ! i).kind))
unfolding parameter_in record_of
parameter_in-more book i h = at_drop_more parameter_in book.records i _ h

pub parameter_in-done : (book : Book) (i : ℕ) → length book.records ≤ i → parameter_in (drop i book.records) ≡ None
unfolding parameter_in
parameter_in-done book i h = at_drop_all parameter_in book.records i h

pub ruleset types_step = (with_types-more, with_types-done)

pub ruleset aliases_step = (with_aliases-more, with_aliases-done)

pub ruleset parameter_step = (parameter_in-more, parameter_in-done)
