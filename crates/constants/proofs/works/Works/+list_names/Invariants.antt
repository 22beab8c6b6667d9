-- The measure of the recursion is the record number, since sides are earlier records.
-- Assumes nothing.
use Rattle.constants.proofs.works.Works.+list_names.Given as goal

abbrev pub decreases-list_names : goal.decreases-list_names
decreases-list_names g l = l.n
