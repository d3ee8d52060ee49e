-- `saved::span_at`: what the code makes of its rows is span k, and span k is within bounds.
use Rattle.std.proofs.Common.{◌+◌, ◌≤◌, sym, ◌∙◌, subst}
use Rattle.map.specs.Map.{channel_rows, card_rows}
use Rattle.saved.specs.declared.Span.{Span}
use Rattle.saved.specs.Saved.{holding, fixed_from}
use Rattle.saved.proofs.Spans.{is_span, in_bounds, of_channel_lem, of_card_lem, first_fits}
use Rattle.saved.proofs.span_at.Goals as goal

pub overflow_add-result : goal.overflow_add-result
unfolding holding fixed_from channel_rows card_rows
overflow_add-result c = record { fits = first_fits c.args.k c.if-k-lt-IN_CHANNELS.true }

pub returns-then-k-lt-IN_CHANNELS : goal.returns-then-k-lt-IN_CHANNELS
unfolding holding fixed_from channel_rows card_rows
returns-then-k-lt-IN_CHANNELS c =
    let k = c.args.k in
    let e = of_channel_lem k c.if-k-lt-IN_CHANNELS.true ∙ is_span k c.requires in
    record { value = e; count_bound = subst (λ (x : Span). (x.first + x.count ≤ 16960) × (x.count ≤ 1920)) (sym e) (in_bounds k c.requires) }

pub returns-else-k-lt-IN_CHANNELS-clause-value : goal.returns-else-k-lt-IN_CHANNELS-clause-value
unfolding holding fixed_from channel_rows card_rows
returns-else-k-lt-IN_CHANNELS-clause-value c = of_card_lem c.args.k c.if-k-lt-IN_CHANNELS.false ∙ is_span c.args.k c.requires
