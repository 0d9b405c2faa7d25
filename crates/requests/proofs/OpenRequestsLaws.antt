-- Document 02, E12, is proved. Assumes nothing.
use Rattle.std.proofs.Common.{sym, ap, ◌∙◌, arith}
use Rattle.ledger.proofs.PlacesLaws.{in_use_le}
use Rattle.ledger.specs.History.{verdict_of, after, dwords_by}
use Rattle.ledger.proofs.HistoryLaws.{length_after, counted}
use Rattle.ledger.proofs.StandingLaws.{standing}
use Rattle.ledger.proofs.SentencesLaws.{unread_first, no_request, no_completion, held_iff, full_iff, opened_else, missing_iff, mismatch_iff}
use Rattle.ledger.proofs.SentencesLaws.{more_iff, refused_same, read_closes, write_closes, other_closes, closes_iff, freed_room, freed_again}
use Rattle.ledger.proofs.SentencesLaws.{keys_differ}
use Rattle.requests.specs.OpenRequests.{OpenRequests}

pub open_requests : OpenRequests
open_requests =
    record {
      at_most_256 = λ cs. omega (arith, in_use_le (after cs), length_after cs);
      each_as_opened = λ cs headers i used. (standing cs headers).each i used;
      left_and_delivered = λ cs headers i used.
          let holds = (standing cs headers).each i used in holds.left ∙ sym (ap dwords_by holds.read);
      keys_apart = keys_differ;
      one_place_a_key = λ cs headers i j used same. (standing cs headers).one i j used same;
      reader_first = unread_first;
      no_request_exactly = no_request;
      no_completion_exactly = no_completion;
      held_exactly = λ cs s p a. held_iff (after cs) s p a;
      full_exactly = λ cs s p a. rw (length_after cs) at (full_iff (after cs) s p a);
      else_opened = λ cs s p a new room. opened_else (after cs) s p a new (omega (arith, room, length_after cs));
      missing_exactly = λ cs s k h o a. missing_iff (after cs) s k h o a;
      mismatch_exactly = mismatch_iff;
      more_exactly = more_iff;
      refused_changes_nothing = λ c ws h. refused_same (verdict_of c ws) ws h;
      read_closes_exactly = read_closes;
      write_closes_at_first_success = write_closes;
      other_status_closes = other_closes;
      closes_exactly = closes_iff;
      counted = counted;
      freed_has_room = λ ws s t i p e a q. freed_room ws s t i e p a q;
      freed_used_again = λ ws s t i j w e q. freed_again ws s t i e j w q;
    }
