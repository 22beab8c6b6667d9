-- What the program prints of its input.
-- Assumes nothing.
use Rattle.std.specs.Prelude.{ℕ, List, [], ◌∷◌, ◌++◌, take, replicate, codes, decimal}
use Rattle.lower.specs.LowerBook.{Reply, accepted, refused, lower_book}

-- a reply as text: the three counts, or the number of the cause and the place
abbrev pub line_of : Reply → List ℕ
line_of (accepted r d c) = codes "accepted " ++ (decimal r ++ (codes " " ++ (decimal d ++ (codes " " ++ decimal c))))
line_of (refused n p) = codes "refused " ++ (decimal n ++ (codes " " ++ decimal p))

-- the reply to a book, with slices of the full limits
abbrev pub reply_to : List ℕ → Reply
reply_to book = (lower_book book (replicate 49152 0) (replicate 6144 0)).reply

-- what is printed: the line of the reply to the first 32,769 bytes, which are all that a book can have and one more
abbrev pub said : List ℕ → List ℕ
said input = line_of (reply_to (take 32769 input)) ++ (10 ∷ [])
