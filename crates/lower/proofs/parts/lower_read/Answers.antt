-- `lower::parts::lower_read` meets its contract: the tables have room for the book.
-- Assumes nothing.
use Rattle.std.proofs.Common.{sym, ◌∙◌, arith}
use Rattle.lower.proofs.Sizes.{fits_below, fits_held, constants_below}
use Rattle.lower.proofs.Whole.{whole_read}
use Rattle.types.proofs.Declared.{names_fit}
use Rattle.lower.proofs.parts.lower_read.Goals as goal

pub invariant_of-lower : goal.invariant_of-lower
invariant_of-lower c = record {
  few = omega arith;
  names =
      constants_below c.args.book.now 84 (fits_below c.args.book.now 84 84 (sym c.fits.ensures ∙ c.if-fits.true));
  records = (fits_held c.args.book.now 84 84 (sym c.fits.ensures ∙ c.if-fits.true), omega arith);
}

pub returns-then-fits : goal.returns-then-fits
returns-then-fits c =
    whole_read c.args.book.now c.laws.ensures 84 84 c.args.results.now c.args.diagnostics.now
    (fits_below c.args.book.now 84 84 (sym c.fits.ensures ∙ c.if-fits.true))
    (fits_held c.args.book.now 84 84 (sym c.fits.ensures ∙ c.if-fits.true)) c.lower.ensures

pub invariant_of-lower-then-fits-2 : goal.invariant_of-lower-then-fits-2
invariant_of-lower-then-fits-2 c = record {
  few = omega arith;
  names =
      constants_below c.args.book.now 336 (fits_below c.args.book.now 336 336 (sym c.fits-else-fits.ensures
      ∙ c.if-fits-2.true));
  records = (fits_held c.args.book.now 336 336 (sym c.fits-else-fits.ensures ∙ c.if-fits-2.true), omega arith);
}

pub returns-then-fits-2 : goal.returns-then-fits-2
returns-then-fits-2 c =
    whole_read c.args.book.now c.laws.ensures 336 336 c.args.results.now c.args.diagnostics.now
    (fits_below c.args.book.now 336 336 (sym c.fits-else-fits.ensures ∙ c.if-fits-2.true))
    (fits_held c.args.book.now 336 336 (sym c.fits-else-fits.ensures ∙ c.if-fits-2.true))
    c.lower-then-fits-2.ensures

pub invariant_of-lower-then-from-le-FEW : goal.invariant_of-lower-then-from-le-FEW
invariant_of-lower-then-from-le-FEW c = record {
  few = omega arith;
  names = constants_below c.args.book.now 4096 (names_fit c.args.book.now c.laws.ensures);
  records = (omega arith, omega arith);
}

pub returns-then-from-le-FEW : goal.returns-then-from-le-FEW
returns-then-from-le-FEW c =
    whole_read c.args.book.now c.laws.ensures 4096 336 c.args.results.now c.args.diagnostics.now
    (names_fit c.args.book.now c.laws.ensures) (omega arith)
    c.lower-then-from-le-FEW.ensures

pub invariant_of-lower-else-from-le-FEW : goal.invariant_of-lower-else-from-le-FEW
invariant_of-lower-else-from-le-FEW c = record {
  few = omega arith;
  names = constants_below c.args.book.now 4096 (names_fit c.args.book.now c.laws.ensures);
  records = (c.laws.ensures.few_records, omega arith);
}

pub returns-else-from-le-FEW : goal.returns-else-from-le-FEW
returns-else-from-le-FEW c =
    whole_read c.args.book.now c.laws.ensures 4096 1344 c.args.results.now c.args.diagnostics.now
    (names_fit c.args.book.now c.laws.ensures) c.laws.ensures.few_records
    c.lower-else-from-le-FEW.ensures
