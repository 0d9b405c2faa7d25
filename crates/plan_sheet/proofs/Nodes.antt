-- The planned sheet's places on the buses are the plan's. Assumes nothing.
use Rattle.std.specs.Prelude.{◌≡◌}
use Rattle.std.proofs.Common.{sym, ap, ◌∙◌}
use mathlib.Core.List.{List, map}
use Rattle.pools.specs.declared.Space.TheVariants.{Memory as memory_space}
use Rattle.plan_rule.specs.Records as placing
use Rattle.plan_rule.specs.Refusals.{refusal_of}
use Rattle.board_record.specs.declared.Host.{Host}
use Rattle.board_record.specs.declared.Function.{Function}
use Rattle.board.specs.ToPlacing.{to_host, to_placing, devfn_of}
use Rattle.walk.specs.Registers.{Registers}
use Rattle.sheet.specs.Sheet.{entries_of}
use Rattle.sheet.specs.Spaces.{nodes_of}
use Rattle.sheet.proofs.SheetLaws.{nodes_functions}
use Rattle.sheet_bytes.specs.Layout.{sheet_bytes}
use Rattle.plan_good.proofs.Items.{nodes_plan}
use Rattle.plan_good.specs.Registers.{plan_nodes}
use Rattle.plan_answer.specs.Plan.{plan_of}
use Rattle.plan_sheet.specs.Fits.{BoardFits}
use Rattle.plan_sheet.proofs.Registers.{registers_agree}

module _ (h : Host) (fs : List Function) (fits : BoardFits h fs) (planned : refusal_of (to_host h) (to_placing fs) ≡ 0) where
  abbrev ps : List placing.Function
  ps = to_placing fs

  pub nodes_agree : nodes_of (sheet_bytes (plan_of h fs)) ≡ plan_nodes (to_host h) ps (devfn_of fs)
  nodes_agree =
      sym (nodes_functions memory_space 1 (entries_of (sheet_bytes (plan_of h fs))))
      ∙ ap (map (λ (r : Registers). r.node)) (registers_agree h fs fits planned memory_space)
      ∙ nodes_plan memory_space (to_host h) ps (devfn_of fs)
