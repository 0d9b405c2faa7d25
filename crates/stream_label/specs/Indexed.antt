-- What the labeller has when a sheet is indexed: E6's number, and E4's lines by the index where it is 0. Assumes nothing.
use Rattle.std.specs.Prelude.{◌≡◌, Bool, List, ℕ, length}
use Rattle.std.proofs.Math.Path.{refl}
use Rattle.std.proofs.Common.{sym, ap, ◌∙◌, arith}
use Rattle.std.proofs.Math.Bool.{true, false, cond}
use Rattle.std.proofs.Math.Dec.{eqb}
use borrow.Author.Tests.{eqb-true, le-ltb}
use Rattle.endian.specs.Endian.{Bytes}
use Rattle.records.specs.Limits.{most_functions}
use Rattle.sheet.specs.Sheet.{entries_of}
use Rattle.sheet.proofs.SheetLaws.{checked_of_zero}
use Rattle.audit_rule.specs.Audit.{audit_number}
use Rattle.audit_rule.proofs.AuditLaws.{audit_iff}
use Rattle.index_layout.specs.Places.{index_size}
use Rattle.index_build.specs.Build.{from11, build_number, index_after}
use Rattle.index_build.proofs.BuiltLaws.{search_is_route}
use Rattle.trace_line.specs.declared.Finder.TheVariants.{Index}
use Rattle.trace_line.specs.Line.{line_over}
use Rattle.trace_line.specs.Finder.{line_by}
use Rattle.trace_line.specs.LineLaws.{lines_agree}

pub record Indexed (host s : List ℕ) (number : ℕ) (index : List ℕ) : Type 0 where
  pub number_is : number ≡ audit_number host s
  pub lines_are : number ≡ 0 → line_by Index index ≡ line_over s

-- o has room for the index of any sheet that passes its checks
module _ (host s o : List ℕ) (host_bytes_lem : Bytes host) (bytes : Bytes s) (room : length o ≡ index_size most_functions) where
  never_short : build_number host s (length o) ≡ audit_number host s
  unfolding build_number from11
  never_short = go (eqb (audit_number host s) 0) refl
    where
      go : (t : Bool) → eqb (audit_number host s) 0 ≡ t → cond t (from11 s (length o)) (audit_number host s) ≡ audit_number host s
      go true e =
          let zero = eqb-true (audit_number host s) 0 e in
          let most = (checked_of_zero s ((audit_iff host s bytes).0 zero).passes).count in
          rw (le-ltb (length o) (index_size (length (entries_of s))) (omega (arith, room, most)), zero)
      go false e = refl

  by_index : build_number host s (length o) ≡ 0 → line_by Index (index_after host s o) ≡ line_over s
  by_index done = lines_agree (index_after host s o) s (search_is_route host s o host_bytes_lem bytes done)

  pub indexed : (number : ℕ) (index : List ℕ) → number ≡ build_number host s (length o) → index ≡ index_after host s o
      → Indexed host s number index
  indexed number index e i =
      record { number_is = e ∙ never_short; lines_are = λ z. ap (line_by Index) i ∙ by_index (sym e ∙ z) }
