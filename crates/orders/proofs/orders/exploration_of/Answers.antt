use Rattle.std.proofs.Common.{inl, refl, sym, true≢false}
use Rattle.regmodel.specs.Settings.{settings_of}
use Rattle.orders.proofs.orders.exploration_of.Goals as goal

pub returns-in-Err-clause-err : goal.returns-in-Err-clause-err
returns-in-Err-clause-err c = record {
  number = c.in-Err.fault.code;
  told_is = refl;
  why = inl (record {
    settings = settings_of c.number_of.result c.number_of-2.result c.number_of-3.result c.number_of-4.result c.number_of-5.result;
    told_are = record {
      length = c.number_of.ensures;
      crashes = c.number_of-2.ensures;
      workers = c.number_of-3.ensures;
      cut = c.number_of-4.ensures;
      room = c.number_of-5.ensures;
    };
    past = λ within. true≢false (sym (c.in-Err.ensures.fits.1 within));
    lowest = c.in-Err.ensures.lowest;
  });
}
