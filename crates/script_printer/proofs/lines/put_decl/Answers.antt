use Rattle.script_printer.proofs.Prelude.{ap, decl_tokens}
use Rattle.csp_text.specs.declared.token.Token.TheVariants as token
use Rattle.script_printer.proofs.Written.{row_as, row_of_one}
use Rattle.script_printer.proofs.lines.put_decl.Goals as goal

pub returns-in-Channel : goal.returns-in-Channel
returns-in-Channel c = row_as c.args.text.now c.put_channel.new.text _ _ c.put_channel.result (ap decl_tokens c.in-Channel.is) c.put_channel.ensures

pub returns-in-Datatype : goal.returns-in-Datatype
returns-in-Datatype c = row_as c.args.text.now c.put_datatype.new.text _ _ c.put_datatype.result (ap decl_tokens c.in-Datatype.is) c.put_datatype.ensures

pub returns-in-Nametype : goal.returns-in-Nametype
returns-in-Nametype c = row_as c.args.text.now c.put_nametype.new.text _ _ c.put_nametype.result (ap decl_tokens c.in-Nametype.is) c.put_nametype.ensures

pub returns-in-Define : goal.returns-in-Define
returns-in-Define c = row_as c.args.text.now c.put_definition.new.text _ _ c.put_definition.result (ap decl_tokens c.in-Define.is) c.put_definition.ensures

pub returns-in-Assert : goal.returns-in-Assert
returns-in-Assert c = row_as c.args.text.now c.put_assertion.new.text _ _ c.put_assertion.result (ap decl_tokens c.in-Assert.is) c.put_assertion.ensures

pub returns-in-Roles : goal.returns-in-Roles
returns-in-Roles c =
    row_as c.args.text.now c.put_roles.new.text _ _ c.put_roles.result (ap decl_tokens c.in-Roles.is)
    (row_of_one c.args.text.now c.put_roles.new.text (token.Roles c.in-Roles.names) c.put_roles.result c.put_roles.ensures)

pub returns-in-Resource : goal.returns-in-Resource
returns-in-Resource c =
    row_as c.args.text.now c.put_resource.new.text _ _ c.put_resource.result (ap decl_tokens c.in-Resource.is)
    (row_of_one c.args.text.now c.put_resource.new.text (token.Resource c.in-Resource.names) c.put_resource.result c.put_resource.ensures)
