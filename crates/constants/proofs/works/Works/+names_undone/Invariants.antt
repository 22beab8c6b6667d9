-- The measure of the recursion is the record number, since sides are earlier records.
-- Assumes nothing.
use Rattle.constants.proofs.works.Works.+names_undone.Given as goal

abbrev pub decreases-names_undone : goal.decreases-names_undone
decreases-names_undone g l = l.n
