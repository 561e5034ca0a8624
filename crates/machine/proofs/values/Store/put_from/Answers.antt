use Rattle.std.proofs.Common.{◌≡◌, ◌+◌, drop, get_or, ap, ◌∙◌, sym, arith}
use Rattle.regmodel.specs.Values.{store, store_from, InCell}
use Rattle.machine.specs.Stores.{env_of}
use Rattle.machine.proofs.CellLists.{drop_at, drop_past}
use Rattle.machine.proofs.values.Store.put_from.Goals as goal

pub loop-offset-preserved : goal.loop-offset-preserved
loop-offset-preserved c =
    let k = c.loop-offset.offset in
    let values = c.args.values.now in
    let env = env_of c.loop-offset.self in
    let place : c.args.cell + k + 1 ≡ c.args.cell + (k + 1) = omega arith in
    c.loop-offset.invariant
    ∙ (ap (store_from env (c.args.cell + k)) (drop_at values k c.loop-offset-test.true)
    ∙ (ap (λ i. store_from (store env (InCell i) (get_or values k 0)) (c.args.cell + k + 1) (drop (k + 1) values)) (ap (λ n. n + k) (sym c.from.ensures))
    ∙ (ap (λ e. store_from e (c.args.cell + k + 1) (drop (k + 1) values)) (sym c.put_cell.ensures)
    ∙ ap (λ i. store_from (env_of c.put_cell.new.self) i (drop (k + 1) values)) place)))

pub returns : goal.returns
returns c = sym (c.loop-offset.invariant ∙ ap (store_from (env_of c.loop-offset.self) (c.args.cell + c.loop-offset.offset)) (drop_past c.args.values.now c.loop-offset.offset c.loop-offset-test.false))
