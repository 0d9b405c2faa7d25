-- "One owner for every address", the second verdict on a sheet that real firmware left, in the words of its request, over the verdict's
-- number and the router's answers on bytes. Bytes are what a slice of u8 holds. `sound_sheets` of SoundSheetsLaws proves it. Assumes
-- nothing.
use Rattle.std.specs.Prelude.{◌≡◌, ◌↔◌, List, ℕ, length}
use Rattle.endian.specs.Endian.{Bytes}
use Rattle.packet.specs.declared.Packet.{Packet}
use Rattle.tlp.specs.declared.Reading.TheVariants.{Accepted as Read}
use Rattle.tlp.specs.Reading.{read_of}
use Rattle.pools.specs.declared.Space.{Space}
use Rattle.board_record.specs.Host.{host_of_part}
use Rattle.sheet.specs.Spaces.{nodes_of}
use Rattle.sheet.specs.Commands.{SameButCommands}
use Rattle.audit_rule.specs.declared.Nesting.TheVariants.{OfSpace}
use Rattle.audit_rule.specs.Accepted.{OneOwner, ByNumber}
use Rattle.audit_rule.specs.Audit.{audit_number, sound_number}
use Rattle.demands.specs.Demand3.{IsRequest, route_number, Routed}
use Rattle.demands.specs.ById.{GoesById, RoutedById}
use Rattle.requests.specs.Audit.{bridges_above, HasBarOver, Owns, HasIdOver, most_in_row}

pub record SoundSheets : Type 0 where
  -- "the same checks with 51 asked of the space and not of the kind (a memory BAR or window lies in some memory window of the bridge above;
  -- on the root bus in the low or the high pool): 0 exactly when `Good` holds without the kind"
  pub zero_exactly : (host s : List ℕ) → Bytes s → (sound_number host s ≡ 0) ↔ OneOwner host s
  -- and else the number of the first part that fails
  pub by_number : (host s : List ℕ) → Bytes s → ByNumber OfSpace host s (sound_number host s)
  -- "Every accepted sheet is sound."
  pub accepted_sound : (host s : List ℕ) → Bytes s → audit_number host s ≡ 0 → sound_number host s ≡ 0
  -- it stays so when command words are rewritten
  pub stays_sound : (host s : List ℕ) → OneOwner host s → (t : List ℕ) → SameButCommands s t → OneOwner host t
  -- "and then delivery as demand 3 has it, by the same law", as judged or with its command words rewritten since
  pub sound_routed : (host s : List ℕ) → Bytes s → OneOwner host s
      → (t : List ℕ) → SameButCommands s t
      → (header : List ℕ) (p : Packet) → read_of header ≡ Read p
      → (sp : Space) (address : ℕ) → IsRequest p sp address
      → Routed (Owns host s t sp address) (bridges_above host s) most_in_row t header p sp address
  pub sound_by_id : (host s : List ℕ) → Bytes s → OneOwner host s
      → (t : List ℕ) → SameButCommands s t
      → (header : List ℕ) (p : Packet) → read_of header ≡ Read p
      → (id : ℕ) → GoesById p id
      → RoutedById (length (nodes_of s)) (host_of_part host).first_bus (HasIdOver s id) (bridges_above host s) most_in_row t header p id
  pub never_contested : (host s : List ℕ) → Bytes s → OneOwner host s
      → (t : List ℕ) → SameButCommands s t
      → (header : List ℕ) (p : Packet) → read_of header ≡ Read p → ¬ (route_number header t ≡ 41)
  -- "Their addresses still have one owner each.": no two functions have BARs over one address, enabled or not
  pub one_holder : (host s : List ℕ) → Bytes s → OneOwner host s
      → (sp : Space) (address j k : ℕ) → HasBarOver s sp address j → HasBarOver s sp address k → j ≡ k
