-- One step of lowering plain aliases.
-- Assumes nothing.
use Rattle.std.proofs.Common.{◌≡◌, ℕ, ◌+◌, ◌<◌, ◌≤◌, List, length, get_or, drop}
use Rattle.std.proofs.lemmas.List.{at_drop_more, at_drop_all}
use Rattle.types.specs.Code.{State, done, next}
use Rattle.types.specs.PlainAliases.{is_plain_alias, if_alias, lower_aliases}

pub lower_aliases-more : (ns : List ℕ) (i : ℕ) (s : State) → i < length ns
    → lower_aliases (drop i ns) s
    ≡ next (if_alias (is_plain_alias s.book (get_or ns i 0)) (get_or ns i 0) s) (λ _ t. lower_aliases (drop (i + 1) ns) t)
unfolding lower_aliases
lower_aliases-more ns i s h = at_drop_more (λ l. lower_aliases l s) ns i 0 h

pub lower_aliases-done : (ns : List ℕ) (i : ℕ) (s : State) → length ns ≤ i → lower_aliases (drop i ns) s ≡ done tt s
unfolding lower_aliases
lower_aliases-done ns i s h = at_drop_all (λ l. lower_aliases l s) ns i h

pub ruleset alias_steps = (lower_aliases-more, lower_aliases-done)
