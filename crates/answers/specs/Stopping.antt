-- Why a list is not read on, by the error of a reader or a writer.
-- Assumes nothing.
use Rattle.std.specs.Prelude.{◌≡◌, ◌≢◌}
use Rattle.std.specs.IoError.{error_kind}
use Rattle.std.specs.declared.io.Error.{Error}
use Rattle.std.specs.declared.io.ErrorKind.TheVariants.{UnexpectedEof}
use Rattle.answers.specs.declared.Stop.{Stop}
use Rattle.answers.specs.declared.Stop.TheVariants.{Broken, Failed}

-- broken where the input ended too early, and else failed with that error
pub record Stops (error : Error) (stop : Stop) : Type 0 where
  pub ended : error_kind error ≡ UnexpectedEof → stop ≡ Broken
  pub failed : error_kind error ≢ UnexpectedEof → stop ≡ Failed error
