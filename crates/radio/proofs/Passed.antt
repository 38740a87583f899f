-- What is sent is heard, and a report makes its way to the unit behind. Assumes nothing.
use Rattle.std.proofs.Common.{◌+◌, ◌-◌, [], ◌∷◌, arith}
use Rattle.std.proofs.lemmas.Bool.Decides.{nat_tests}
use Rattle.braking.specs.Refusals.{kept}
use Rattle.message.specs.declared.message.Message.TheVariants.{Report, Grant}
use Rattle.message.specs.Bytes.{body, with_check}
use Rattle.message.proofs.RoundTrip.{read_back}
use Rattle.controller.specs.Steps.{known, after_hear}
use Rattle.controller.proofs.Hearings.{farthest_known}
use Rattle.radio.specs.Ends.{after_hearing}
use Rattle.radio.specs.Laws.{ReportHeard, TellHeard, GrantHeard, FreshEnd, FreshIfTaken}

pub report_heard : ReportHeard
report_heard u bytes e = read_back _ bytes (grind (arith, nat_tests))

pub tell_heard : TellHeard
tell_heard c train bytes e = read_back _ bytes (grind (arith, nat_tests))

pub grant_heard : GrantHeard
grant_heard c train bytes e = read_back _ bytes (grind (arith, nat_tests))

pub fresh_end : FreshEnd
fresh_end ahead behind c low next last w r =
    let report = Report ahead.train (ahead.low - ahead.length) in
    let grant = Grant (ahead.train + 1) (known (kept c (after_hear c report)) ahead.train) in
    let farthest = farthest_known c (report ∷ []) ahead.train w in
    let report_back = read_back report (with_check (body report)) (grind (arith, nat_tests)) in
    let grant_back = read_back grant (with_check (body grant)) (grind (arith, nat_tests)) in
    record {
      report = with_check (body report);
      grant = with_check (body grant);
      reports = grind (arith, nat_tests);
      hears = grind (arith, nat_tests);
      grants = grind (arith, nat_tests);
      takes = grind (arith, nat_tests);
      fresh = grind (arith, nat_tests);
    }

pub fresh_if_taken : FreshIfTaken
fresh_if_taken ahead behind c report grant w reports grants takes =
    let said = Report ahead.train (ahead.low - ahead.length) in
    let farthest = farthest_known c (said ∷ []) ahead.train w in
    let heard = report_heard ahead report reports in
    let told = grant_heard (kept c (after_hearing c report)) ahead.train grant grants in
    grind (arith, nat_tests)
