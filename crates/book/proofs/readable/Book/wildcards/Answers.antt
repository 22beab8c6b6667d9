use Rattle.std.proofs.Common.{◌≡◌, subst, refl}
use Rattle.book.specs.Outline.{Book}
use Rattle.book.specs.Accepted.{book_in}
use Rattle.book.proofs.readable.Book.wildcards.Goals as goal

pub returns : goal.returns
unfolding book_in
returns c = subst (λ (b : Book). c.self.inside.wildcards ≡ b.wildcards) c.self.view_is refl
