-- Runs of `lower_lent`: what is left in the counters and in the structs, for small books.
-- Assumes nothing.
use Rattle.std.specs.Prelude.{ℕ, false, List, [], ◌∷◌, ◌≡◌, replicate}
use Rattle.record.specs.Write.{with_records, cleared}
use Rattle.types.specs.declared.LowerCtx.{LowerCtx}
use Rattle.lower.specs.LowerBook.{accepted, refused}
use Rattle.types.specs.declared.diagnostic.ErrorClass.{ErrorClass}
use Rattle.types.specs.declared.diagnostic.ErrorClass.TheVariants.{UnresolvedType, AliasTargetNotFound, ConstRefNotFound}
use Rattle.lent.specs.declared.Diagnostic.{Diagnostic}
use Rattle.lent.specs.Diagnostics.{no_diagnostic}
use Rattle.lent.specs.Lent.{LentOutcome, lower_lent}
use Rattle.runs.specs.Books.{book_of}
use Rattle.runs.specs.Known.{k2, N1, N2}
use Rattle.runs.specs.Slips.{Foo}
use Rattle.runs.specs.Edges.{poison_counts}

-- counters by their three numbers
abbrev pub counters : ℕ → ℕ → ℕ → LowerCtx
counters next results diagnostics = record { next = next; results = results; diagnostics = diagnostics }

-- a diagnostic by its message, its names, its class and its span
abbrev pub diagnostic : ℕ → ℕ → ℕ → ErrorClass → ℕ → ℕ → Diagnostic
diagnostic m name member class offset len =
    record {
      kind = 50;
      message = m;
      name = name;
      member = member;
      class = class;
      span = record { offset = offset; len = len };
    }

-- what is lent: counters that mean nothing, bytes, and structs that are no diagnostics of the book's
abbrev pub lent_counters : LowerCtx
lent_counters = counters 7 8 9

abbrev pub lent_bytes : ℕ → List ℕ
lent_bytes n = replicate n 5

abbrev pub lent_struct : Diagnostic
lent_struct = diagnostic 4 11 12 ConstRefNotFound 13 14

abbrev pub lent_structs : ℕ → List Diagnostic
lent_structs n = replicate n lent_struct

-- a book's lowering with such counters, so many bytes and so many structs
abbrev pub lowered : List ℕ → ℕ → ℕ → LentOutcome
lowered book r d = lower_lent lent_counters book (lent_bytes r) (lent_structs d)

-- what is claimed, each by computing it
pub record LentRuns : Type 0 where
  -- four diagnostics in a list of six: four numbers are given, to three newtypes and a stub
  pub accepted_with_four :
      lowered (book_of false poison_counts.book) 243 6
      ≡ record {
        reply = accepted 10 4 0;
        ctx = counters 4 10 4;
        results = with_records poison_counts.results (lent_bytes 243);
        diagnostics =
            diagnostic 1 Foo 0 UnresolvedType 100 1
            ∷ diagnostic 2 Foo N2 UnresolvedType 120 3
            ∷ diagnostic 2 Foo N2 UnresolvedType 130 4
            ∷ diagnostic 3 N1 0 AliasTargetNotFound 190 1
            ∷ lent_struct
            ∷ lent_struct
            ∷ [];
      }
  -- K2 in a list of one: no number is given
  pub accepted_with_one :
      lowered (book_of false k2.book) 48 1
      ≡ record {
        reply = accepted 2 1 0;
        ctx = counters 0 2 1;
        results = with_records k2.results (lent_bytes 48);
        diagnostics = diagnostic 5 N1 0 ConstRefNotFound 120 3 ∷ [];
      }
  -- one more than a list of three holds, at the last newtype: zeros, and zero ones
  pub stopped_at_the_fourth :
      lowered (book_of false poison_counts.book) 243 3
      ≡ record {
        reply = refused 10 10;
        ctx = counters 0 0 0;
        results = cleared 10 (lent_bytes 243);
        diagnostics = no_diagnostic ∷ no_diagnostic ∷ no_diagnostic ∷ [];
      }
  -- no bytes: all is as lent
  pub turned_back :
      lowered [] 48 2
      ≡ record { reply = refused 1 0; ctx = lent_counters; results = lent_bytes 48; diagnostics = lent_structs 2 }
