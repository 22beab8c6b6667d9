-- The measure of the recursion is the record number, since sides are earlier records.
-- Assumes nothing.
use Rattle.constants.proofs.works.Works.+names_twice.Given as goal

abbrev pub decreases-names_twice : goal.decreases-names_twice
decreases-names_twice g l = l.n
