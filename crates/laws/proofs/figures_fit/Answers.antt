use Rattle.figures.proofs.Fit.{chart-fits, kept-fits, dropped-fits, timing-fits, measures-fit, last-fits, judged-fits, flagged-fits, written-fits}
use Rattle.chart_sheet.proofs.Answering.{sheet-fits}
use Rattle.laws.proofs.figures_fit.Goals as goal

pub returns : goal.returns
returns c =
    record {
      chart = chart-fits;
      kept = kept-fits;
      dropped = dropped-fits;
      written = written-fits;
      timing = timing-fits;
      measures = measures-fit;
      last = last-fits;
      judged = judged-fits;
      flagged = λ flags L four ten text short. flagged-fits L four ten text short flags;
      sheet = λ form L four ten. sheet-fits L four ten form;
    }
