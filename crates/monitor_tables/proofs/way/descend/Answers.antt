-- At each height the way from here on is the whole way.
use mathlib.Core.Path.{◌∙◌, ap}
use Prim.Native.Nat.{ℕ, ◌%◌}
use Rattle.ledger.specs.Layout.{word_of, state_of}
use Rattle.ledger.proofs.Laws.Fields.{guest_low}
use Rattle.ledger.proofs.Laws.Sound.{guest_there}
use Rattle.monitor_tables.proofs.Laws.Way.{way_root, way_leads, way_down, way_short, ended_last}
use Rattle.monitor_tables.proofs.way.descend.Goals as goal

pub root-table-requires-clause-g_bound : goal.root-table-requires-clause-g_bound
root-table-requires-clause-g_bound c = (guest_low c.args.g (guest_there c.args.ram.now c.args.ledger.now c.requires.sound c.args.g
    c.requires.g_value.0)).1

pub loop-height-init : goal.loop-height-init
loop-height-init c = way_root c.requires.sound c.args.g c.args.v c.root-table.result c.root-table.ensures c.requires.g_value.0
    c.requires.g_value.1

pub returns-then-x-eq-EMPTY : goal.returns-then-x-eq-EMPTY
returns-then-x-eq-EMPTY c = way_short c.requires.sound c.loop-height.invariant c.entry-x.result (c.entry-x.ensures
    ∙ ap (λ (y : ℕ). word_of c.args.ram.now c.loop-height.table (y % 512)) c.upper.ensures) c.if-x-eq-EMPTY.true

pub table_in-table-requires : goal.table_in-table-requires
table_in-table-requires c = way_leads c.requires.sound c.loop-height.invariant c.first-first.result c.entry-x.result
    c.first-first.ensures c.loop-height-test.true (c.entry-x.ensures ∙ ap (λ (y : ℕ). word_of c.args.ram.now c.loop-height.table
    (y % 512)) c.upper.ensures)
    c.if-x-eq-EMPTY.false

pub loop-height-preserved : goal.loop-height-preserved
loop-height-preserved c = way_down c.requires.sound c.loop-height.invariant c.first-first.result c.entry-x.result c.first-first.ensures
    c.loop-height-test.true (c.entry-x.ensures ∙ ap (λ (y : ℕ). word_of c.args.ram.now c.loop-height.table (y % 512)) c.upper.ensures)
    c.if-x-eq-EMPTY.false _ c.table_in-table.ensures

pub returns : goal.returns
returns c = ended_last (state_of c.args.ram.now c.args.ledger.now) c.requires.sound.core c.args.g c.args.v c.loop-height.height
    c.loop-height.table c.loop-height.invariant c.loop-height-test.false
