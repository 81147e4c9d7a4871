use Rattle.std.proofs.Common.{rules, subst}
use Rattle.standard_run.specs.Program.{ProgramEnds}
use Rattle.desk_c.specs.Answered.{HasRun, file_input, opens_none, words_of}
use Rattle.desk_c.proofs.Flags.{excluded, refused}
use Rattle.desk_c.proofs.run.Goals as goal

pub returns : goal.returns
returns g c =
    let from = g.R.Source.input c.args.source.now in
    let rest = g.R.Source.input c.run_words.new.standard in
    let old = g.W.Sink.output c.args.sink.now in
    let new = g.W.Sink.output c.run_words.new.sink in
    let ran : HasRun c.args.raw c.args.check from old new _ =
    record {
      rest = rest;
      outcome = c.run_words.result;
      ends = subst (λ words. ProgramEnds opens_none file_input from rest old new words c.run_words.result) c.words_of.ensures c.run_words.ensures;
      tells = search rules;
    } in
    record {
      ran = ran;
      excluded = excluded c.args.raw c.args.check from old new _ ran;
      refused = refused c.args.raw c.args.check from old new _ ran;
    }
