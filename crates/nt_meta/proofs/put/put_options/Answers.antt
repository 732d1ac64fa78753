use Rattle.std.proofs.lemmas.Result.{on_ok_weaker}
use Rattle.nt_meta.proofs.Appends.{options-put}
use Rattle.nt_meta.proofs.put.put_options.Goals as goal

pub returns : goal.returns
returns c =
    on_ok_weaker c.put_option-3.result
    (options-put c.args.options c.args.out.now.items c.put_map.new.out.items c.put_option.new.out.items
    c.put_option-2.new.out.items c.put_option-3.new.out.items c.option_count.result c.option_count.ensures
    c.in_ok-put_map.ensures.ok c.in_ok-put_option.ensures c.in_ok-put_option-2.ensures)
    c.put_option-3.ensures
