-- `regions::find`: row 0 holds the offset, or the first row that does not end before it, or none.
use Rattle.std.proofs.Common.{◌≡◌, ◌+◌, ◌<◌, ◌≤◌, ℕ, sym, ap, ◌∙◌, rules, arith}
use Rattle.std.specs.Prelude.{Some}
use Rattle.std.proofs.lemmas.List.Sorted.{IsPartitionPoint-from_clause}
use Rattle.map.specs.Map.{Hit, hit, miss, channel_rows, card_rows, found_in, scan}
use Rattle.regions.specs.Once.{once, raised_to}
use Rattle.regions.specs.declared.Row as code
use Rattle.regions.proofs.Search.{table, code_row, row, known, ends_before, Point, past_all, in_no_row, parted, ends_past, holds_it, fits}
use Rattle.regions.proofs.find.Goals as goal

pub returns-then-offset-tables : goal.returns-then-offset-tables
unfolding once channel_rows card_rows
returns-then-offset-tables c =
    let o = c.args.offset in
    let h = holds_it 0 o (omega arith) (omega arith) c.if-offset-tables.true in
    ap Some c.region.ensures ∙ ap (λ (h : Hit). raised_to c.args.base (found_in h)) (sym h)

-- what the search of the rows answers, and the row that is there
module _ (o k : ℕ) (x : code.Row) (p : Point o k) (h : k < 28) (e : x ≡ code_row k) where
  before_row : o < x.0 → scan once o ≡ miss
  before_row f = in_no_row o k p h (rw (← e) f)

  in_row : x.0 ≤ o → scan once o ≡ hit (row k)
  in_row f = holds_it k o h (rw (← e) f) (ends_past o k p h)

module _ (k : ℕ) (x : code.Row) (h : k < 28) (e : x ≡ code_row k) where
  row_fits : (b : ℕ) → b < 0x4000 → (b + x.0 < 65536) × (b + x.1 < 65536)
  row_fits b g = rw e (fits k h b g)

pub returns-in_err-row : goal.returns-in_err-row
unfolding once channel_rows card_rows
returns-in_err-row c =
    let o = c.args.offset in
    let k = c.partition_point.result in
    let p : Point o k = IsPartitionPoint-from_clause (ends_before o) table k c.partition_point.ensures.partitioned (parted o) (λ a r q j. search rules) in
    let m = past_all o k p c.in_err-row.ensures.lookup.3 c.partition_point.ensures.bound in
    c.from_residual.ensures ∙ ap (λ (h : Hit). raised_to c.args.base (found_in h)) (sym m)

pub returns-then-offset-row : goal.returns-then-offset-row
unfolding once channel_rows card_rows
returns-then-offset-row c =
    let o = c.args.offset in
    let k = c.partition_point.result in
    let p : Point o k = IsPartitionPoint-from_clause (ends_before o) table k c.partition_point.ensures.partitioned (parted o) (λ a r q j. search rules) in
    let e = c.in_ok-row.ensures.lookup.4 (omega arith) (code_row 28) in
    let m = before_row o k c.in_ok-row.field-0.now p c.in_ok-row.ensures.lookup.3.0 e c.if-offset-row.true in
    ap (λ (h : Hit). raised_to c.args.base (found_in h)) (sym m)

pub region-requires-2-clause-row_bound : goal.region-requires-2-clause-row_bound
unfolding once channel_rows card_rows
region-requires-2-clause-row_bound c =
    (row_fits c.partition_point.result c.in_ok-row.field-0.now c.in_ok-row.ensures.lookup.3.0 (c.in_ok-row.ensures.lookup.4 (omega arith) (code_row 28)) c.args.base c.requires).0

pub region-requires-2-clause-row_bound_2 : goal.region-requires-2-clause-row_bound_2
unfolding once channel_rows card_rows
region-requires-2-clause-row_bound_2 c =
    (row_fits c.partition_point.result c.in_ok-row.field-0.now c.in_ok-row.ensures.lookup.3.0 (c.in_ok-row.ensures.lookup.4 (omega arith) (code_row 28)) c.args.base c.requires).1

pub returns : goal.returns
unfolding once channel_rows card_rows
returns c =
    let o = c.args.offset in
    let b = c.args.base in
    let k = c.partition_point.result in
    let p : Point o k = IsPartitionPoint-from_clause (ends_before o) table k c.partition_point.ensures.partitioned (parted o) (λ a r q j. search rules) in
    let e = c.in_ok-row.ensures.lookup.4 (omega arith) (code_row 28) in
    let m = in_row o k c.in_ok-row.field-0.now p c.in_ok-row.ensures.lookup.3.0 e c.if-offset-row.false in
    ap Some c.region-2.ensures
    ∙ ap (λ (r : code.Row). Some (record { first = b + r.0; last = b + r.1; access = r.2 })) (e ∙ known k)
    ∙ ap (λ (h : Hit). raised_to b (found_in h)) (sym m)
