use Rattle.std.proofs.Common.{[], List, filter, sym, ◌∙◌, ap}
use Rattle.nt_frames.specs.declared.message.ValueMsg.{ValueMsg}
use Rattle.nt_control.specs.declared.message.ServerMsg.{ServerMsg}
use Rattle.nt_client.specs.declared.take.Taken.{Taken}
use Rattle.nt_client.specs.Taking.{clock_in, is_clock}
use Rattle.nt_client.proofs.Answering.{clock-texts, clock-values}
use Rattle.nt_client.proofs.Reading.{part-is, says-texts, says-values}
use Rattle.nt_client.proofs.client.Client.take.Goals as goal

pub returns-in_ok-read-in-Text-clause-clock : goal.returns-in_ok-read-in-Text-clause-clock
returns-in_ok-read-in-Text-clause-clock c messages parts says =
    let msgs : List ServerMsg = c.in_ok-read-in-Text.read.msgs.items in
    let said = says-texts c.args.frame.now _ c.as_bytes.result.now msgs c.in_ok-read-in-Text.read.ignored messages parts c.in-Text.is
    (c.as_bytes.ensures.value ∙ c.as_str.ensures) c.in_ok-read-in-Text.ensures.msgs c.in_ok-read-in-Text.ensures.ignored says in
    part-is c.take_texts.result (λ (taken : Taken). taken.clock.items) [] (clock_in messages) c.take_texts.ensures.clock
    (sym (ap clock_in said.0 ∙ clock-texts msgs))

pub returns-in_ok-read-in-Binary-clause-clock : goal.returns-in_ok-read-in-Binary-clause-clock
returns-in_ok-read-in-Binary-clause-clock c messages parts says =
    let msgs : List ValueMsg = c.in_ok-read-in-Binary.read.messages.items in
    let said = says-values c.args.frame.now _ c.as_bytes-in-Binary.result.now msgs c.in_ok-read-in-Binary.read.fault messages parts
    c.in-Binary.is c.as_bytes-in-Binary.ensures c.in_ok-read-in-Binary.ensures.only says in
    part-is c.take_values.result (λ (taken : Taken). taken.clock.items) (filter is_clock msgs) (clock_in messages)
    c.take_values.ensures.clock (sym (ap clock_in said.0 ∙ clock-values msgs))
