-- The second verdict proved: what the audit's laws say of a sheet with one owner for every address. Assumes nothing.
use Rattle.audit_rule.specs.declared.Nesting.TheVariants.{OfSpace}
use Rattle.audit_rule.proofs.AcceptedLaws.{one_owner_of_accepted}
use Rattle.audit_rule.proofs.AuditLaws.{audit_iff, sound_iff, sound_by_number}
use Rattle.requests.proofs.AuditLaws.{stays_accepted, holder_is, owner_routed, owner_by_id, never_contested}
use Rattle.requests.specs.SoundSheets.{SoundSheets}

pub sound_sheets : SoundSheets
sound_sheets =
    record {
      zero_exactly = sound_iff;
      by_number = sound_by_number;
      accepted_sound = λ host s bytes e. (sound_iff host s bytes).1 (one_owner_of_accepted host s ((audit_iff host s bytes).0 e));
      stays_sound = stays_accepted OfSpace;
      sound_routed = owner_routed;
      sound_by_id = owner_by_id;
      never_contested = never_contested;
      one_holder = holder_is;
    }
