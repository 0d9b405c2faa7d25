-- The second verdict of a sheet alone, and its index: the sheet's own number first, and then as under the host record that is made for it.
-- Assumes nothing.
use Rattle.std.specs.Prelude.{cond, List, ℕ, length, eqb}
use Rattle.sheet.specs.Sheet.{sheet_number}
use Rattle.audit_rule.specs.Audit.{sound_number}
use Rattle.any_host.specs.AnyHost.{host_alone}
use Rattle.index_build.specs.Build.{sound_build_number, sound_index_after}

unfoldable pub alone_number : List ℕ → ℕ
alone_number s = cond (eqb (sheet_number s) 0) (sound_number (host_alone s) s) (sheet_number s)

unfoldable pub alone_build_number : List ℕ → ℕ → ℕ
alone_build_number s room = cond (eqb (sheet_number s) 0) (sound_build_number (host_alone s) s room) (sheet_number s)

unfoldable pub alone_index_after : List ℕ → List ℕ → List ℕ
alone_index_after s o = cond (eqb (sheet_number s) 0) (sound_index_after (host_alone s) s o) o
