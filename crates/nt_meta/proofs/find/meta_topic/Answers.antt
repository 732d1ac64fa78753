use Rattle.std.proofs.Common.{◌≡◌, None, Some, option_map, rules, codes}
use Rattle.nt_meta.specs.Topics.{meta_of}
use Rattle.nt_meta.proofs.Names.{life_at, conn_at, found-topic_pub, found-topic_sub, found-client_pub, found-client_sub, found-server}
use Rattle.nt_meta.proofs.find.meta_topic.Goals as goal

pub returns-in-Some : goal.returns-in-Some
returns-in-Some c =
    let here : Some c.in-Some.life.now ≡ life_at (codes "$pub$") c.args.roster.now c.args.name.now =
    search rules in
    found-topic_pub c.args.roster.now c.args.name.now c.in-Some.life.now here

pub returns-in-Some-life_named : goal.returns-in-Some-life_named
returns-in-Some-life_named c =
    let a : None ≡ life_at (codes "$pub$") c.args.roster.now c.args.name.now = search rules in
    let here : Some c.in-Some-life_named.life.now
    ≡ life_at (codes "$sub$") c.args.roster.now c.args.name.now = search rules in
    found-topic_sub c.args.roster.now c.args.name.now c.in-Some-life_named.life.now a here

pub returns-in-Some-conn_named : goal.returns-in-Some-conn_named
returns-in-Some-conn_named c =
    let a : None ≡ life_at (codes "$pub$") c.args.roster.now c.args.name.now = search rules in
    let b : None ≡ life_at (codes "$sub$") c.args.roster.now c.args.name.now = search rules in
    let here : Some c.in-Some-conn_named.conn.now
    ≡ conn_at (codes "$client_pub$") c.args.roster.now c.args.name.now =
    search rules in
    found-client_pub c.args.roster.now c.args.name.now c.in-Some-conn_named.conn.now a b here

pub returns-in-Some-conn_named-2 : goal.returns-in-Some-conn_named-2
returns-in-Some-conn_named-2 c =
    let a : None ≡ life_at (codes "$pub$") c.args.roster.now c.args.name.now = search rules in
    let b : None ≡ life_at (codes "$sub$") c.args.roster.now c.args.name.now = search rules in
    let d : None ≡ conn_at (codes "$client_pub$") c.args.roster.now c.args.name.now = search rules in
    let here : Some c.in-Some-conn_named-2.conn.now
    ≡ conn_at (codes "$client_sub$") c.args.roster.now c.args.name.now =
    search rules in
    found-client_sub c.args.roster.now c.args.name.now c.in-Some-conn_named-2.conn.now a b d here

pub returns : goal.returns
returns c =
    let a : None ≡ life_at (codes "$pub$") c.args.roster.now c.args.name.now = search rules in
    let b : None ≡ life_at (codes "$sub$") c.args.roster.now c.args.name.now = search rules in
    let d : None ≡ conn_at (codes "$client_pub$") c.args.roster.now c.args.name.now = search rules in
    let e : None ≡ conn_at (codes "$client_sub$") c.args.roster.now c.args.name.now = search rules in
    found-server c.args.roster.now c.args.name.now
    (option_map (meta_of c.args.roster.now) c.server_topic.result) a b d e
    (c.server_topic.ensures c.args.roster.now)
