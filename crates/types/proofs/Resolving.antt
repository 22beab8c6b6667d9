-- The two resolvers write and tell records within their widths, if the book's records are, and take no step deeper than
-- the 65th.
-- Assumes nothing.
use Prim.Native.Nat.{ℕ, zero, suc, ◌-◌, ◌^◌, ◌≤◌, ◌<◌}
use mathlib.Core.Bool.{Bool, true, false}
use mathlib.Core.Path.{◌≡◌, refl}
use native.Mathlib.Omega.{arith}
use lib.Dec.{lit<, lit≤}
use Rattle.record.specs.declared.Record.{Record}
use Rattle.record.specs.declared.Span.{Span}
use Rattle.record.specs.Layout.{Within}
use Rattle.book.specs.Faults.{is_kind}
use Rattle.book.specs.Outline.{Book, ◌!◌}
use Rattle.book.specs.Lists.{All}
use Rattle.book.proofs.Lists.{either}
use Rattle.book.proofs.Records.{record-within}
use Rattle.types.specs.Lowering.{resolving, and_then}
use Rattle.types.specs.Resolved.{named, Names, with_stub, with_pair}
use Rattle.types.specs.Step.{Step, Resolved, emit_type, whole}
use Rattle.types.specs.Resolve.{TypeExpr, plain, name, qualified, generic, one, two, type_expr}
use Rattle.types.specs.Resolve.{Found, type, stub, unresolved, find_name, resolve_name, find_qualified, resolve_qualified}
use Rattle.types.specs.Resolve.{Head, alias, no_alias, no_number, find_head, Substitution, Resolver, resolve_by}
use Rattle.types.specs.Resolve.{is_parameter, beyond, resolve_type_expr, resolve_type_expr_with_substitution, resolve_type}
use Rattle.types.specs.Alias.{lower_alias}
use Rattle.types.proofs.Does.{Does}
use Rattle.types.proofs.Steps.{Sized, SizedSpan, Sound, Below, Right, Fine, Keeps}
use Rattle.types.proofs.Steps.{keeps-whole, keeps-over_one, keeps-over_two, keeps-poison}
use Rattle.types.proofs.Found.{SizedFound, sized_name, sized_qualified, stub_sound, pair_sound, alias_sound}
use Rattle.types.proofs.Steps.{keeps-at, keeps-emit, keeps-change, keeps_then, keeps_next}

-- records of a book whose records are within their widths
module _ {W : Type 0} (book : Book) (given : W → All Within book.records) where
  pub within : (n : ℕ) → W → Within (book ! n)
  within n w = record-within book.records n (given w)

  sized_span : (n : ℕ) → W → SizedSpan (book ! n).span
  sized_span n w = ((within n w).offset, (within n w).len)

-- a type record
abbrev SizedExpr : TypeExpr → Type 0
SizedExpr (plain t) = Sized t
SizedExpr (name n) = n < 2 ^ 16
SizedExpr (qualified space n) = (space < 2 ^ 16) × (n < 2 ^ 16)
SizedExpr (generic n a) = n < 2 ^ 16
SizedExpr (one p size a) = (p < 2 ^ 8) × (size < 2 ^ 64)
SizedExpr (two p a b) = p < 2 ^ 8

sized_expr : (r : Record) → Within r → SizedExpr (type_expr r)
unfolding type_expr
sized_expr r w =
    either SizedExpr (is_kind 1 r) w.sub
    (either SizedExpr (is_kind 2 r) (w.sub, w.a)
    (either SizedExpr (is_kind 3 r) w.sub
    (either SizedExpr (is_kind 4 r) w.a
    (either SizedExpr (is_kind 5 r) (w.a, w.b)
    (either SizedExpr (is_kind 6 r) w.a
    (either SizedExpr (is_kind 7 r) (w.sub, w.v) (either SizedExpr (is_kind 8 r) w.sub w.a)))))))

module _ (W S : Type 0) where
  -- a resolver's step from names s, k results being there
  abbrev Resolves : Step Resolved → Names → ℕ → Type 0
  Resolves m s k = Does (Below W) (Fine W S) (λ x j. Right W x.0 × (W → Sound x.1 j)) (m s) k

  -- the next number, with its result
  fresh :
      (s s' : Names) (k : ℕ) → (W → Sound s k) → (W → k < 2 ^ 16 → Sound s' (suc k)) →
      Resolves (λ z. whole (named s.next) s') s k
  unfolding whole emit_type and_then
  fresh s s' k g h =
      λ below. (
        (λ c. refl, λ w. let b = below w in omega (arith, g w)),
        ((λ w. (below w, let b = below w in omega (arith, g w))), λ w. h w (below w)),
      )

  -- at any record, with any span
  abbrev Throughout : Resolver → Type 0
  Throughout r = (a : ℕ) (span : Span) → (W → SizedSpan span) → Keeps W S (Right W) (r a span)

module _ {W S : Type 0} where
  -- names
  keeps_name :
      (book : Book) (n : ℕ) (span : Span) → (W → n < 2 ^ 16) → (W → SizedSpan span) →
      Keeps W S (Right W) (resolve_name book n span)
  unfolding resolve_name
  keeps_name book n span h q = record { does = λ s k g. go s k g (find_name book n s) refl (λ w. sized_name book n s k (g w)) }
    where
      go :
          (s : Names) (k : ℕ) → (W → Sound s k) → (f : Found) → find_name book n s ≡ f → (W → SizedFound f) →
          Resolves W S (resolve_name book n span) s k
      go s k g (type t) e z = rw e ((keeps-whole t z).does s k g)
      go s k g stub e z = rw e (fresh W S s (with_stub n s) k g (λ w b. stub_sound n s k b (g w)))
      go s k g (unresolved m) e z = rw e ((keeps-poison {W = W} {S = S} m n 0 0 span (lit≤ tt) (λ w. omega (arith, h w, q w, z w))).does s k g)

  keeps_qualified :
      (space n : ℕ) (span : Span) → (W → (space < 2 ^ 16) × (n < 2 ^ 16)) → (W → SizedSpan span) →
      Keeps W S (Right W) (resolve_qualified space n span)
  unfolding resolve_qualified
  keeps_qualified space n span h q =
      record { does = λ s k g. go s k g (find_qualified space n s) refl (λ w. sized_qualified space n s k (g w)) }
    where
      go :
          (s : Names) (k : ℕ) → (W → Sound s k) → (f : Found) → find_qualified space n s ≡ f → (W → SizedFound f) →
          Resolves W S (resolve_qualified space n span) s k
      go s k g (type t) e z = rw e ((keeps-whole t z).does s k g)
      go s k g stub e z = rw e (fresh W S s (with_pair space n s) k g (λ w b. pair_sound space n s k b (g w)))
      go s k g (unresolved m) e z = rw e ((keeps-poison {W = W} {S = S} m space n 0 span (lit≤ tt) (λ w. omega (arith, h w, q w, z w))).does s k g)

  module _ (book : Book) (given : W → All Within book.records) where
    -- one record, given what is done with a child and with a generic's target
    keeps_by :
        (child : Resolver) (target : Substitution → Resolver) (unknown : ℕ) →
        unknown < 2 ^ 8 →
        Throughout W S child →
        ((sub : Substitution) → Throughout W S (target sub)) →
        (e : TypeExpr) (span : Span) →
        (W → SizedExpr e) →
        (W → SizedSpan span) →
        Keeps W S (Right W) (resolve_by book child target unknown e span)
    unfolding resolve_by
    keeps_by child target unknown u c t (plain x) span h q = keeps-whole x h
    keeps_by child target unknown u c t (name n) span h q = keeps_name book n span h q
    keeps_by child target unknown u c t (qualified space n) span h q = keeps_qualified space n span h q
    keeps_by child target unknown u c t (one p size a) span h q =
        keeps_then (c a _ (sized_span book given a)) (λ x y. keeps-over_one p size x h y)
    keeps_by child target unknown u c t (two p a b) span h q =
        keeps_then (c a _ (sized_span book given a))
        (λ l y. keeps_then (c b _ (sized_span book given b)) (λ r z. keeps-over_two p l r h y z))
    keeps_by child target unknown u c t (generic n argument) span h q = record { does = λ s k g. go s k g (find_head book n s) refl }
      where
        go :
            (s : Names) (k : ℕ) → (W → Sound s k) → (f : Head) → find_head book n s ≡ f →
            Resolves W S (resolve_by book child target unknown (generic n argument) span) s k
        go s k g (alias x) e = rw e ((t _ x.target span q).does s k g)
        go s k g no_alias e = rw e ((keeps-poison {W = W} {S = S} 3 n 0 1 span (lit≤ tt) (λ w. omega (arith, h w, q w))).does s k g)
        go s k g no_number e = rw e ((keeps-poison {W = W} {S = S} unknown n 0 0 span (lit≤ tt) (λ w. omega (arith, h w, q w))).does s k g)

    -- one step
    keeps-beyond : Keeps W S (Right W) beyond
    keeps-beyond = record { does = λ s k g. (lit≤ tt, (λ w. (lit< tt, lit< tt), g)) }

    keeps-resolving : (d : ℕ) {m : Step Resolved} → d ≤ 65 → Keeps W S (Right W) m → Keeps W S (Right W) (λ s. resolving d (m s))
    keeps-resolving d h k = record { does = λ s n g. (h, k.does s n g) }

    keeps_either :
        (b : Bool) {m k : Step Resolved} → Keeps W S (Right W) m → Keeps W S (Right W) k →
        Keeps W S (Right W) (λ s. elim b [ true ↦ m s | false ↦ k s ])
    keeps_either true h l = h
    keeps_either false h l = l

    -- all steps
    mutual
      unfolding resolve_type_expr

      keeps_expr : (left : ℕ) → Throughout W S (resolve_type_expr left book)
      keeps_expr zero n span q = keeps-beyond
      keeps_expr (suc left) n span q =
          keeps-resolving (64 - left) (omega arith)
          (keeps_by _ _ 4 (lit< tt) (λ a at q. keeps_expr left a at q) (λ sub a at q. keeps_substituted left sub a at q)
          (type_expr (book ! n)) span (λ w. sized_expr _ (within book given n w)) q)

      keeps_substituted : (left : ℕ) (sub : Substitution) → Throughout W S (resolve_type_expr_with_substitution left book sub)
      keeps_substituted zero sub n span q = keeps-beyond
      keeps_substituted (suc left) sub n span q =
          keeps-resolving (64 - left) (omega arith)
          (keeps_either (is_parameter sub (type_expr (book ! n)))
          (keeps_expr left sub.argument span q)
          (keeps_by _ _ 1 (lit< tt) (λ a at q. keeps_substituted left sub a at q) (λ new a at q. keeps_substituted left new a at q)
          (type_expr (book ! n)) span (λ w. sized_expr _ (within book given n w)) q))

    pub keeps_type : (n : ℕ) → Keeps W S (Right W) (resolve_type book n)
    unfolding resolve_type
    keeps_type n = keeps_expr 64 n _ (sized_span book given n)

    pub keeps_alias : (n : ℕ) → Keeps W S (λ x. Unit) (lower_alias book n)
    unfolding lower_alias
    keeps_alias n =
        keeps_next (keeps-at n)
        (keeps_then (keeps_type (book ! n).b)
        (λ t q.
        keeps_next (keeps-emit _ (λ c. refl, λ w. omega (arith, q w, within book given n w)))
        (keeps-change _ (λ w s k g. alias_sound _ _ s k (q w).1 g))))
