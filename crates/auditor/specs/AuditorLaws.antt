-- The numbers of an audit in their order, in the words of the code. Assumes nothing.
use Rattle.std.specs.Prelude.{◌≡◌, Bool, true, false, List, ℕ, length}
use Rattle.std.proofs.Math.Path.{sym}
use Rattle.std.proofs.Common.{◌∙◌}
use borrow.Author.Tests.{eq-eqb, ne_eqb}
use Rattle.board_record.specs.declared.Host.{Host}
use Rattle.board_record.specs.Host.{host_length, host_of_part, host_wrong}
use Rattle.sheet.specs.Sheet.{entries_of, sheet_number}
use Rattle.sheet_record.specs.Entry.{Entry}
use Rattle.audit_rule.specs.Audit.{from52, from51, from50, from_sheet, from26, number_by}
use Rattle.audit_rule.specs.declared.Nesting.{Nesting}
use Rattle.auditor.specs.declared.Check.TheVariants.{Tree, Nested, Disjoint}
use Rattle.auditor.specs.Checks.{fails}

-- ## The host record, then the sheet by itself

module _ (t : Nesting) (host s : List ℕ) where
  pub short_host : (length host ≡ host_length → ⊥) → number_by t host s ≡ 20
  unfolding number_by
  short_host d = rw (ne_eqb (length host) host_length d)

  module _ (size : length host ≡ host_length) (h : Host) (is : h ≡ host_of_part host) (wrong : Bool) (is_wrong_lem : wrong ≡ host_wrong h) where
    past_size : number_by t host s ≡ from26 t h s
    unfolding number_by
    past_size = rw (eq-eqb (length host) host_length size, is)

    pub off_edges_lem : wrong ≡ true → number_by t host s ≡ 26
    unfolding from26
    off_edges_lem e = past_size ∙ rw (sym is_wrong_lem ∙ e)

    module _ (right : wrong ≡ false) (n : ℕ) (number : n ≡ sheet_number s) where
      past_edges : number_by t host s ≡ from_sheet t h s
      unfolding from26
      past_edges = past_size ∙ rw (sym is_wrong_lem ∙ right)

      pub sheet_refused : (n ≡ 0 → ⊥) → number_by t host s ≡ n
      unfolding from_sheet
      sheet_refused d = past_edges ∙ rw (← number, ne_eqb n 0 d)

      pub sheet_passed : n ≡ 0 → number_by t host s ≡ from50 t h (entries_of s)
      unfolding from_sheet
      sheet_passed z = past_edges ∙ rw (← number, eq-eqb n 0 z)

-- ## The sheet under the host: what each check says

module _ (t : Nesting) (h : Host) (es : List Entry) (tree : Bool) (is_tree : tree ≡ fails Tree t h es) where
  pub not_tree_lem : tree ≡ true → from50 t h es ≡ 50
  unfolding from50
  not_tree_lem e = rw (sym is_tree ∙ e)

  module _ (tree_right : tree ≡ false) (nested : Bool) (is_nested : nested ≡ fails Nested t h es) where
    pub not_nested_lem : nested ≡ true → from50 t h es ≡ 51
    unfolding from50 from51
    not_nested_lem e = rw (sym is_tree ∙ tree_right, sym is_nested ∙ e)

    module _ (nested_right : nested ≡ false) (disjoint : Bool) (is_disjoint : disjoint ≡ fails Disjoint t h es) where
      pub not_disjoint_lem : disjoint ≡ true → from50 t h es ≡ 52
      unfolding from50 from51 from52
      not_disjoint_lem e = rw (sym is_tree ∙ tree_right, sym is_nested ∙ nested_right, sym is_disjoint ∙ e)

      pub all_passed : disjoint ≡ false → from50 t h es ≡ 0
      unfolding from50 from51 from52
      all_passed e = rw (sym is_tree ∙ tree_right, sym is_nested ∙ nested_right, sym is_disjoint ∙ e)
