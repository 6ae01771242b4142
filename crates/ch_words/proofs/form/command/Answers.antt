-- The program's command has the five tools, each with the options and the files of its form.
use Rattle.clap.proofs.WalkLemmas.{IfOk-both}
use Rattle.ch_words.specs.Line.{ask_form, dist_form, near_form, program_form, save_form, table_form}
use Rattle.ch_words.proofs.form.command.Goals as goal

pub returns : goal.returns
returns c =
    let dist = IfOk-both c.dist_command.result _ _ c.dist_command.ensures.form c.dist_command.ensures.local in
    let table = IfOk-both c.table_command.result _ _ c.table_command.ensures.form c.table_command.ensures.local in
    let near = IfOk-both c.near_command.result _ _ c.near_command.ensures.form c.near_command.ensures.local in
    let save = IfOk-both c.save_command.result _ _ c.save_command.ensures.form c.save_command.ensures.local in
    let ask = IfOk-both c.ask_command.result _ _ c.ask_command.ensures.form c.ask_command.ensures.local in
    let with_dist = c.with_tool-command.ensures program_form dist_form c.program.ensures dist in
    let with_table = c.with_tool-command-2.ensures _ table_form with_dist table in
    let with_near = c.with_tool-command-3.ensures _ near_form with_table near in
    let with_save = c.with_tool-command-4.ensures _ save_form with_near save in
    c.with_tool.ensures _ ask_form with_save ask
