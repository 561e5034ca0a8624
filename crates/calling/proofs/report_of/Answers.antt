use Rattle.std.proofs.Common.{inl, refl, ap, ◌∙◌}
use Rattle.regmodel.specs.Prelude.{Program}
use denote.Param.Object.{read_made}
use Rattle.lists.proofs.Members.{map-take_push}
use Rattle.calling.proofs.report_of.OwnLists.{own-1}
use Rattle.calling.proofs.report_of.Goals as goal

-- one machine more: the boxed one is of the next process's program
pub loop-p-preserved : goal.loop-p-preserved
loop-p-preserved c =
    let own = own-1.entry (inl tt) in
    let boxed = c.into_dyn_box.result in
    let same = read_made own-1 own (inl tt) refl Program (λ entry m. (entry.1.means m).program) boxed.vtable boxed.value _ c.into_dyn_box.ensures.1 ∙ ap (λ m. (own.1.means m).program) c.in_ok-new.ensures.ok in
    map-take_push (λ b. ((own-1.entry b.vtable).1.means b.value).program) c.loop-p.machines.items _ boxed _ c.loop-p.p _ c.in_ok-push.ensures.items c.loop-p.invariant same c.in_ok-player.ensures
