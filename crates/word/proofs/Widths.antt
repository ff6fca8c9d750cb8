-- Numbers of 64 bits at a width of at least as many. Assumes nothing.
use Rattle.std.proofs.Common.{◌≡◌, ℕ, ◌%◌, ◌^◌, ◌<◌, ◌≤◌, arith, mod-eq_of_lt}
use Rattle.std.proofs.Math.Pow.{pow_mono}

-- every such number is of the width
pub fits_wide : (w n : ℕ) → 64 ≤ w → n < 2 ^ 64 → n < 2 ^ w
fits_wide w n wide h = omega (arith, pow_mono wide)

pub lowest_wide : (w n : ℕ) → 64 ≤ w → n < 2 ^ 64 → n % 2 ^ w ≡ n
lowest_wide w n wide h = mod-eq_of_lt (fits_wide w n wide h)
