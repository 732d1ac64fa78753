-- Meta topics as the code tells them apart, and what each stands for.
use Rattle.std.specs.Prelude.{ℕ}
use Rattle.nt_rules.specs.declared.meta.MetaNow.{MetaNow}
use Rattle.nt_rules.specs.declared.roster.Roster.{Roster}
use Rattle.nt_meta.specs.declared.topic.MetaTopic.{MetaTopic}
use Rattle.nt_meta.specs.declared.topic.MetaTopic.TheVariants.{TopicPub, TopicSub, ClientPub, ClientSub, Clients, ServerPub, ServerSub}
use Rattle.nt_rules.specs.meta.Meta.{topic_pub, topic_sub, client_pub, client_sub, clients, server_pub, server_sub, id_of}

-- what a meta topic is now
abbrev pub meta_of : Roster → MetaTopic → MetaNow
meta_of r (TopicPub life) = topic_pub r life.now
meta_of r (TopicSub life) = topic_sub r life.now
meta_of r (ClientPub conn) = client_pub conn.now
meta_of r (ClientSub conn) = client_sub conn.now
meta_of r Clients = clients r
meta_of r ServerPub = server_pub
meta_of r ServerSub = server_sub

-- its id
abbrev pub number_of : MetaTopic → ℕ
number_of (TopicPub life) = id_of 2 life.now.id
number_of (TopicSub life) = id_of 3 life.now.id
number_of (ClientPub conn) = id_of 4 conn.now.conn
number_of (ClientSub conn) = id_of 5 conn.now.conn
number_of Clients = id_of 6 1
number_of ServerPub = id_of 6 2
number_of ServerSub = id_of 6 3
