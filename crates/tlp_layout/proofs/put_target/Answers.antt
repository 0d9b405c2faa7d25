-- `tlp_layout::put_target` meets its contract. Assumes nothing.
use Rattle.tlp_layout.specs.Layout.{target_bytes}
use Rattle.endian.specs.SetsLaws.{sets_append}
use Rattle.endian.specs.EndianLaws.{length_be_bytes}
use Rattle.endian.specs.Endian.{be_bytes}
use mathlib.Core.List.{[], ◌∷◌}
use Prim.Native.Nat.{◌*◌, ◌/◌, ◌%◌}
use mathlib.Core.Path.{refl}
use Rattle.tlp_layout.proofs.put_target.Goals as goal

pub returns : goal.returns
unfolding target_bytes
returns c = let after = (c.args.t.register / 64) ∷ (c.args.t.register % 64 * 4) ∷ [] in
    sets_append c.args.room.now 8 2 (be_bytes 2 c.args.t.id) after (length_be_bytes 2 c.args.t.id) c.write_be16.ensures refl
