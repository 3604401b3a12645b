mod TypesThere
