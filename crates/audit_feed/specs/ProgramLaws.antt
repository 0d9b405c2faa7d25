-- No line that the program prints is longer than 12 bytes. Assumes nothing.
use Rattle.std.specs.Prelude.{Bool, true, false, cond, ℕ, ◌≤◌, ◌<◌, length, eqb}
use Rattle.std.proofs.Common.{arith}
use Rattle.text.specs.Text.{ascii, refusal_text}
use Rattle.text.specs.TextLaws.{refusal_short}
use Rattle.audit_feed.specs.Program.{number_text}

pub text_le : (n : ℕ) → n < 1000 → length (number_text n) ≤ 12
unfolding number_text ascii
text_le n few = go (eqb n 0)
  where
    go : (b : Bool) → length (cond b (ascii "accepted\n") (refusal_text n)) ≤ 12
    go true = omega arith
    go false = refusal_short n few
