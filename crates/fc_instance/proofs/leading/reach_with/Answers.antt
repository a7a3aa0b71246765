use Rattle.fc_instance.proofs.Leads.{key_got, with_key_none, with_key_some}
use Rattle.fc_instance.proofs.leading.reach_with.Goals as goal

pub returns-in-None-find : goal.returns-in-None-find
returns-in-None-find c = with_key_none c.args.rows.now.1.1 c.args.fields.now c.args.keys.now c.args.rows.now.0 c.args.place c.in-Some.key.now c.as_slice.result.now c.args.bytes.now c.in_ok-written-in-Some.written.items c.deref.result.now c.find.result
    c.requires (key_got c.args.keys.now c.args.place c.in-Some.key.now c.in-Some.ensures.lookup.3.0 c.in-Some.ensures.lookup.1) c.as_slice.ensures c.in_ok-written-in-Some.ensures c.deref.ensures.value c.find.ensures c.in-None-find.is

pub returns : goal.returns
returns c = with_key_some c.args.rows.now.1.1 c.args.fields.now c.args.keys.now c.args.rows.now.0 c.args.place c.in-Some-find.subscript c.in-Some.key.now c.as_slice.result.now c.args.bytes.now c.in_ok-written-in-Some.written.items c.deref.result.now c.find.result
    c.requires (key_got c.args.keys.now c.args.place c.in-Some.key.now c.in-Some.ensures.lookup.3.0 c.in-Some.ensures.lookup.1) c.as_slice.ensures c.in_ok-written-in-Some.ensures c.deref.ensures.value c.find.ensures c.in-Some-find.is
