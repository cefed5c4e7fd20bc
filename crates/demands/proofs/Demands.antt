-- Our module meets the demands.
-- Assumes nothing.
use Rattle.readings.proofs.Plain.{plain_days, each_quarter}
use Rattle.demands.specs.Module.{ours}
use Rattle.demands.specs.Demands.{Demands}
use Rattle.demands.proofs.Refusals.{left_as_before, fixed_state}
use Rattle.demands.proofs.Carried.{carried}
use Rattle.demands.proofs.Calendar.{calendar}
use Rattle.demands.proofs.Numbers.{numbers, dates}
use Rattle.demands.proofs.Editions.{picking, loadings, same_under}
use Rattle.demands.proofs.Forms.{today_forms}
use Rattle.demands.proofs.Charges.{to_the_cent}
use Rattle.demands.proofs.Fair.{fairness}
use Rattle.demands.proofs.HandedBack.{handed_back}
use Rattle.demands.proofs.Sheets.{sheets}
use Rattle.demands.proofs.Answers.{exactly_when, to_the_quarter_hour, days_as_whole}
use Rattle.demands.proofs.Missing.{never_legal}
use Rattle.demands.proofs.Parts.{handed_out}
use Rattle.demands.proofs.Eligibility.{eligibility}

pub met : Demands ours
met =
    record {
      left_as_before = left_as_before;
      fixed_state = fixed_state;
      handed_back = handed_back;
      carried = carried;
      numbers = numbers;
      today_forms = today_forms;
      picking = picking;
      loadings = loadings;
      same_under = same_under;
      dates = dates;
      plain_days = plain_days;
      each_quarter = each_quarter;
      exactly_when = exactly_when;
      never_legal = never_legal;
      handed_out = handed_out;
      calendar = calendar;
      to_the_quarter_hour = to_the_quarter_hour;
      to_the_cent = to_the_cent;
      eligibility = eligibility;
      days_as_whole = days_as_whole;
      sheets = sheets;
      fairness = fairness;
    }
