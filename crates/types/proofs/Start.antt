-- The names of a book's declarations are sound, if its records are few.
-- Assumes nothing.
use Prim.Native.Nat.{ℕ, suc, ◌+◌, ◌^◌, ◌≤◌, ◌<◌}
use mathlib.Core.Bool.{Bool}
use mathlib.Core.List.{List, [], ◌∷◌, ◌++◌, map}
use mathlib.Core.Path.{◌≡◌, refl, ap}
use native.Mathlib.Nat.{le_trans}
use native.Mathlib.Omega.{arith}
use lib.ListN.{length, length-append, length-map}
use Rattle.record.specs.declared.Record.{Record}
use Rattle.book.specs.Lists.{All, numbered_from, from}
use Rattle.book.specs.Faults.{is_kind}
use Rattle.book.specs.Outline.{Book, ◌!◌, numbers_of}
use Rattle.book.proofs.Lists.{keep-length, from-length}
use Rattle.types.specs.Numbers.{type_declarations, generic_aliases, register_declarations}
use Rattle.types.proofs.Steps.{Sound}

-- no more declarations than records
numbers_length : (test : Record → Bool) (book : Book) → length (numbers_of test book) ≤ length book.records
unfolding numbers_of
numbers_length test book =
    let k = length book.records in
    omega (arith, keep-length (λ n. test (book ! n)) (from 0 k), from-length 0 k)

declared_length : (book : Book) → length (type_declarations book) ≤ length book.records
unfolding type_declarations
declared_length book = numbers_length _ book

generic_length : (book : Book) → length (generic_aliases book) ≤ length book.records
unfolding generic_aliases
generic_length book = le_trans (keep-length _ (numbers_of (is_kind 23) book)) (numbers_length _ book)

-- numbers from n on
numbers_below_lem :
    (n : ℕ) (l : List ℕ) → n + length l ≤ 2 ^ 64 →
    All (λ (x : ℕ × ℕ). x.1 < 2 ^ 64) (map (λ x. (x.1, x.0)) (numbered_from n l))
unfolding numbered_from
numbers_below_lem n [] h = tt
numbers_below_lem n (x ∷ l) h = (omega arith, numbers_below_lem (suc n) l (omega arith))

-- and as many as there are names
numbers_many : (n : ℕ) (l : List ℕ) → length (map {B = ℕ × ℕ} (λ x. (x.1, x.0)) (numbered_from n l)) ≡ length l
unfolding numbered_from
numbers_many n [] = refl
numbers_many n (x ∷ l) = ap suc (numbers_many (suc n) l)

pub start_sound : (book : Book) → length book.records ≤ 2 ^ 31 → Sound (register_declarations book) 0
unfolding register_declarations
start_sound book h =
    record {
      next = few;
      numbers = numbers_below_lem 0 (map name_of declared) (omega (arith, few));
      pairs = tt;
      aliases = tt;
      counted = omega (arith, numbers_many 0 (map name_of declared));
    }
  where
    declared : List ℕ
    declared = type_declarations book ++ generic_aliases book

    name_of : ℕ → ℕ
    name_of n = (book ! n).a

    few : length (map name_of declared) ≤ 2 ^ 32 + 0
    few =
        rw (length-map declared name_of, length-append (type_declarations book) (generic_aliases book))
        (omega (arith, declared_length book, generic_length book))
