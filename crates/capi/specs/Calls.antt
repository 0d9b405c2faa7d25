-- The version of the calls. Assumes nothing.
use Rattle.std.specs.Prelude.{ℕ}

-- 10,000 times the major number, 100 times the minor one, the patch
abbrev pub version_number : ℕ
version_number = 3400
