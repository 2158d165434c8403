-- What a run told stays as more is done: the laws.
use Rattle.later_operations.specs.Words.{WordsStay, ToldStay, KeptWordsStay, RingStays}
use Rattle.later_operations.specs.Facts.{FactsStay, LatestFactsStay, ReleasedStays}
use Rattle.later_operations.specs.Faults.{FaultsStay, OutsideStays}
use Rattle.later_operations.specs.Outputs.{OutputsStay}
use Rattle.later_operations.specs.Calls.{CallsStay}
use Rattle.later_operations.proofs.DoneFrom.{are_from}
use Rattle.later_operations.proofs.EarlierWords.{word_later, told_later, kept_word_later, ring_later, facts_later, latest_facts_later}
use Rattle.later_operations.proofs.EarlierWords.{released_at_effect_later, faults_later, outside_later}
use Rattle.later_operations.proofs.EarlierWords.{on_later, on_run_later, confirmed_later, unconfirmed_later}
use Rattle.later_operations.proofs.EarlierWords.{requests_later, routing_calls_later, delay_calls_later, silence_calls_later}

pub words : WordsStay
words site kept panel tick new old moments from by = word_later site kept new old tick (are_from tick new from) panel moments by

pub told : ToldStay
told site kept panel tick new old moments from by = told_later site kept new old tick (are_from tick new from) panel moments by

pub kept_words : KeptWordsStay
kept_words site kept panel source tick new old moments from by =
    kept_word_later site kept new old tick (are_from tick new from) panel source moments by

pub ring : RingStays
ring site kept tick new old moments from by = ring_later site kept new old tick (are_from tick new from) moments by

pub facts : FactsStay
facts site kept panel tick new old moments from by = facts_later site kept new old tick (are_from tick new from) panel moments by

pub latest_facts : LatestFactsStay
latest_facts site kept none panel tick new old moments from by =
    latest_facts_later site kept new old tick (are_from tick new from) none panel moments by

pub released : ReleasedStays
released site kept panel tick new old moments from by =
    released_at_effect_later site kept new old tick (are_from tick new from) panel moments by

pub faults : FaultsStay
faults site kept panel tick new old moments from by = faults_later site kept new old tick (are_from tick new from) panel moments by

pub outside : OutsideStays
outside site kept stamps up panel tick new old moments from by =
    outside_later site kept new old tick (are_from tick new from) stamps up panel moments by

pub outputs : OutputsStay
outputs = record {
  on = λ site kept output tick new old moments from by. on_later site kept new old tick (are_from tick new from) output moments by;
  on_runs = λ site kept output tick new old moments from by. on_run_later site kept new old tick (are_from tick new from) output moments by;
  confirmed = λ site kept output tick new old moments from by. confirmed_later site kept new old tick (are_from tick new from) output moments by;
  unconfirmed = λ site kept output tick new old moments from by. unconfirmed_later site kept new old tick (are_from tick new from) output moments by;
}

pub calls : CallsStay
calls = record {
  requests = λ site kept panel tick new old moments from by. requests_later site kept new old tick (are_from tick new from) panel moments by;
  routing = λ site kept panel tick new old moments from by. routing_calls_later site kept new old tick (are_from tick new from) panel moments by;
  delays = λ site kept panel tick new old moments from by. delay_calls_later site kept new old tick (are_from tick new from) panel moments by;
  silence = λ site kept panel tick new old moments from by. silence_calls_later site kept new old tick (are_from tick new from) panel moments by;
}
