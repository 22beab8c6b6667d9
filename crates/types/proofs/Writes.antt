-- Types that are one record, messages, and numbers that are given.
-- Assumes nothing.
use Rattle.std.proofs.Common.{◌≡◌, ℕ, ◌+◌, ◌≤◌, Bool, true, false, List, [], ◌∷◌, ◌++◌, length, refl, sym, ap, ◌∙◌}
use Rattle.std.proofs.Common.{arith, subst, length-append}
use Rattle.record.specs.declared.Record.{Record}
use Rattle.record.specs.declared.Span.{Span}
use Rattle.record.specs.Named.{named_record}
use Rattle.book.specs.Outline.{Book}
use Rattle.types.specs.Lowering.{State, with_result, and_then, full, finished, stopped, run}
use Rattle.types.specs.Resolved.{ResolvedType, named, Names, POISON}
use Rattle.types.specs.Step.{Step, ◌>>=◌, give, emit, tell, emit_type, whole, poison, message}
use Rattle.types.specs.Records.{below, type_records}
use Rattle.types.specs.Tables.{Tables}
use Rattle.types.specs.Stands.{Lent, Knows, Stands, Ends, Done, Does, Roots, Resolves}
use Rattle.types.specs.Code as code
use Rattle.types.proofs.Refining.{left, grown_more, does_next, does_map, does_as}
use Rattle.types.proofs.Emits.{Emitted, it_is, no_room, emitted, does_emit, does_tell}

-- a type that is one record
pub record Leaf (r : Record) (t : ResolvedType) : Type 0 where
  pub low : below t ≡ 0
  pub only : (n : ℕ) → type_records n t ≡ r ∷ []
  pub emits : emit_type t ≡ emit r

pub named_leaf : (n : ℕ) → Leaf (named_record n) (named n)
unfolding below type_records emit_type
named_leaf n = record { low = refl; only = λ n. refl; emits = refl }

-- a root is written over the records of what is under it
pub does_root : (lent : Lent) (book : Book) (k₀ : Names) (rs : List Record) (c : code.State) (k : Names) (s : State)
    → Stands lent book c k s → (r : Record) (t : ResolvedType)
    → k.aliases ≡ k₀.aliases → length s.results ≡ length rs + below t
    → s.results ++ r ∷ [] ≡ rs ++ type_records (length rs) t
    → Does lent book (Roots k₀ rs) (code.emit r c) (emit r >>= λ n. give (record { root = n; type = t })) k s
does_root lent book k₀ rs c k s h r t same at all =
    does_as lent book _ (Roots k₀ rs) (code.emit r c) (emit r) (λ i. record { root = i; type = t }) k s
    (λ n m k' rs' v. record {
      root_is = v.0 ∙ sym v.1;
      root_at = v.1 ∙ at;
      adds = v.3 ∙ all;
      aliases_same = ap (λ (x : Names). x.aliases) v.2 ∙ same;
    })
    (does_emit lent book c k s h r)

pub does_leaf : (lent : Lent) (book : Book) (c : code.State) (k : Names) (s : State) → Stands lent book c k s
    → (r : Record) (t : ResolvedType) → Leaf r t
    → Resolves lent book (code.emit r c) (whole t) k s
unfolding whole
does_leaf lent book c k s h r t leaf =
    subst (λ (m : Step ℕ). Does lent book (Roots k s.results) (code.emit r c)
    (m >>= λ n. give (record { root = n; type = t })) k s) (sym leaf.emits)
    (does_root lent book k s.results c k s h r t refl (omega (arith, leaf.low))
    (ap (λ (x : List Record). s.results ++ x) (sym (leaf.only (length s.results)))))

-- the tables change behind a record
abbrev pub changed : (Tables → Tables) → code.Outcome ℕ → code.Outcome ℕ
changed g o = code.next o (λ n t. code.done n (record t { names = g t.names }))

-- a number is given: the record of the type, and the names with the number
module _ (lent : Lent) (book : Book) (c : code.State) (k k' : Names) (s : State) (h : Stands lent book c k s) (i : ℕ)
    (g : Tables → Tables)
    (aliases : k'.aliases ≡ k.aliases)
    (knows : length s.results + 1 ≤ 2048 → Knows book c.names k (s.results ++ named_record i ∷ [])
    → Knows book (g c.names) k' (s.results ++ named_record i ∷ [])) where
  changes : (o : code.Outcome ℕ) (b : Bool) → Emitted lent book c k s (named_record i) o b
      → Ends lent (Done lent book s.results (Roots k s.results)) (changed g o).answer (changed g o).state
      (elim b [
        | true ↦ finished (record { root = length s.results; type = named i }, k')
            (with_result (named_record i) s)
        | false ↦ stopped full s.place
      ])
  unfolding below type_records
  changes _ _ (it_is c₁ same st) =
      record {
        stands =
            record {
              book_is = st.book_is;
              place_is = st.place_is;
              results_are = st.results_are;
              diagnostics_are = st.diagnostics_are;
              results_fit = st.results_fit;
              diagnostics_fit = st.diagnostics_fit;
              knows =
                  subst (λ (x : Tables). Knows book (g x) k' (s.results ++ named_record i ∷ [])) (sym same)
                  (knows (omega (arith, st.results_fit, length-append s.results (named_record i ∷ [])))
                  (subst (λ (x : Tables). Knows book x k (s.results ++ named_record i ∷ [])) same st.knows));
            };
        grown = grown_more s.results (named_record i ∷ []);
        holds = record { root_is = refl; root_at = omega arith; adds = refl; aliases_same = aliases };
      }
  changes _ _ no_room = (refl, left lent book c k s h)

  pub does_number : Resolves lent book (changed g (code.emit (named_record i) c)) (λ k. whole (named i) k') k s
  unfolding run whole emit_type and_then
  does_number = changes (code.emit (named_record i) c) _ (emitted lent book c k s h (named_record i))

-- a message, and poison
pub does_poison : (lent : Lent) (book : Book) (c : code.State) (k : Names) (s : State) → Stands lent book c k s
    → (m a b class : ℕ) (span : Span)
    → Resolves lent book (code.poison m a b class span c) (poison m a b class span) k s
unfolding poison code.poison
does_poison lent book c k s h m a b class span =
    does_next lent book (λ n u k' rs. (k' ≡ k) × (rs ≡ s.results)) (Roots k s.results)
    (code.tell (message m a b class span) c) (tell (message m a b class span))
    (λ n t. code.emit (named_record 4294967295) t) (whole (named POISON)) k s
    (does_tell lent book c k s h (message m a b class span))
    (λ n c' u k' s' st grown same.
    does_map lent book (Roots k' s'.results) (Roots k s.results) (code.emit (named_record 4294967295) c')
    (whole (named POISON)) k' s'
    (λ n t k'' rs v. subst (λ (x : Names). Roots x s.results n t k'' rs) same.0
    (subst (λ (x : List Record). Roots k' x n t k'' rs) same.1 v))
    (does_leaf lent book c' k' s' st (named_record 4294967295) (named POISON) (named_leaf POISON)))
