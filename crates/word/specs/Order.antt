-- The order of words.
--   order v w   how the word v stands to the word w: one without sign stands above one with it, else the larger number
use Rattle.std.specs.declared.cmp.Ordering.{Ordering}
use Rattle.std.specs.Ordering.{bool_cmp, nat_cmp, on, flip_args, then_cmp}
use Rattle.word.specs.Words.{Word}
use Rattle.word.specs.Sums.{negative}

abbrev pub order : Word → Word → Ordering
order = then_cmp (flip_args (on (λ w. negative 36 w.bits) bool_cmp)) (on (λ w. w.bits) nat_cmp)
