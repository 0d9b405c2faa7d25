-- No refusal of a request from a card has the number 0. Assumes nothing.
use Rattle.std.specs.Prelude.{ℕ, List}
use Rattle.route_cards.specs.declared.Sending.{Sending}
use Rattle.route_cards.specs.declared.Sending.TheVariants.{Delivered, Host, Refused}
use Rattle.route_cards.specs.Sending.{sending_of}
use Rattle.route_cards.specs.NumberLaws as sending_numbers
use Rattle.capi_answers.proofs.AnswersLaws.{Numbered}
use Rattle.capi_cards.specs.Calls.{on_sending, send_answer}

pub numbered_sending : (number : ℕ) (header sheet : List ℕ) → Numbered (send_answer number header sheet)
numbered_sending number header sheet = go (sending_of number header sheet) (sending_numbers.numbered_sending number header sheet)
  where
    go : (r : Sending) → sending_numbers.Numbered r → Numbered (on_sending r)
    go (Delivered d) h = tt
    go (Host bridges p) h = tt
    go (Refused n) h = h.0
